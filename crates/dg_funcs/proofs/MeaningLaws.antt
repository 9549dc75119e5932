-- A function of a plan means what that of the text does.
use Rattle.std.proofs.Common.{◌≡◌, ℕ, Bool, true, false, List, [], ◌∷◌, ◌++◌, map, refl, ap, sym, ◌∙◌}
use Rattle.std.specs.Prelude.{◌&&◌, ◌||◌, Option, Some, None, IfSome, option_to_list, filter, filter_map}
use Rattle.std.specs.List.{list_any, cons_option}
use Rattle.std.specs.Ordering.{nat_cmp}
use Rattle.std.proofs.lemmas.Bool.{false≢true}
use Rattle.dg_values.specs.Ascending.{ascending, has}
use Rattle.dg_values.specs.Order.{value_cmp}
use Rattle.dg_values.specs.Scanning.{value_of_text}
use Rattle.dg_values.specs.declared.kind.Kind.{Kind}
use Rattle.dg_values.specs.declared.kind.Kind.TheVariants as kinds
use Rattle.dg_values.specs.declared.value.Value.{Value}
use Rattle.dg_values.specs.declared.value.Value.TheVariants.{Int, Text, Bool as Truth, Time}
use Rattle.dg_schema.specs.declared.definition.PredDef.{PredDef}
use Rattle.dg_graph.specs.declared.change.Triple.{Triple}
use Rattle.dg_graph.specs.Graphs.{IsLawful}
use Rattle.dg_parse.specs.declared.query.CmpOp.{CmpOp}
use Rattle.dg_parse.specs.declared.query.CmpOp.TheVariants as ops
use Rattle.dg_parse.specs.declared.query.QFunc.{QFunc}
use Rattle.dg_parse.specs.declared.query.QFunc.TheVariants as said
use Rattle.dg_parse.specs.declared.query.QOf.{QOf}
use Rattle.dg_parse.specs.declared.query.QOf.TheVariants as part
use Rattle.dg_parse.specs.declared.query.UidArg.{UidArg}
use Rattle.dg_parse.specs.declared.query.UidArg.TheVariants as named
use Rattle.dg_check.specs.declared.parts.Func.{Func}
use Rattle.dg_check.specs.declared.parts.Func.TheVariants as made
use Rattle.dg_check.specs.declared.vars.Variable.{Variable}
use Rattle.dg_check.specs.Faults.{kind_of_part}
use Rattle.dg_check.specs.Plans.{literal_read, literals_read, values_beside, place_of, node_of, of_part, IsPatternOf, IsReadFunc}
use Rattle.dg_check.specs.Variables.{Definition, names_for}
use Rattle.dg_check.specs.Vars.{value_at, named_nodes, nodes_of}
use Rattle.dg_funcs.specs.Truth.{texts_at, nodes_along, compared, stands, stands_to_any, is_between, finds, holds_at}
use Rattle.dg_funcs.specs.Roots.{nodes_of_part, candidates}
use Rattle.dg_funcs.specs.Meaning.{kind_of, stands_to_read, text_stands_to_any, text_is_between, text_named_nodes, text_compared, found_by, text_holds_at, text_nodes_of_part, text_candidates}
use Rattle.dg_funcs.specs.Kinds.{is_of_known_kind}
use Rattle.dg_funcs.specs.Laws.{AreOfKind, FuncsMeanTheirTexts, RootsMeanTheirTexts}
use Rattle.dg_funcs.proofs.PassLaws.{filter_same}
use Rattle.dg_funcs.proofs.TestLaws.{any_by}
use Rattle.dg_funcs.proofs.KindLaws.{any_where, AreOf, values_fit}
use Rattle.dg_funcs.proofs.FoundLaws.{built_found}

-- ---- literals

-- a literal reads alike as a declared kind and as the kind of a value of it
read_alike : (kind : Option Kind) (v : Value) (literal : List ℕ) → is_of_known_kind kind v ≡ true → value_of_text (kind_of v) literal ≡ literal_read kind literal
read_alike None v literal e = absurd (false≢true e)
read_alike (Some kinds.Default) (Text t) literal e = refl
read_alike (Some kinds.Text) (Text t) literal e = refl
read_alike (Some kinds.Int) (Int n) literal e = refl
read_alike (Some kinds.Bool) (Truth b) literal e = refl
read_alike (Some kinds.Time) (Time m) literal e = refl
read_alike (Some kind) v literal e = absurd (false≢true e)

-- those that don't read don't count
stands_read : (op : CmpOp) (v : Value) (f : List ℕ → Option Value) (literals : List (List ℕ)) → list_any (λ l. stands_to_read op v (f l)) literals ≡ stands_to_any op (filter_map f literals) v
stands_read op v f [] = refl
stands_read op v f (l ∷ ls) = by (f l) (stands_read op v f ls)
  where
    by : (o : Option Value) → list_any (λ l. stands_to_read op v (f l)) ls ≡ stands_to_any op (filter_map f ls) v → (stands_to_read op v o || list_any (λ l. stands_to_read op v (f l)) ls) ≡ stands_to_any op (cons_option o (filter_map f ls)) v
    by None e = e
    by (Some given) e = ap (λ b. stands op (value_cmp v given) || b) e

stands_alike : (op : CmpOp) (kind : Option Kind) (literals : List (List ℕ)) (v : Value) → is_of_known_kind kind v ≡ true → text_stands_to_any op literals v ≡ stands_to_any op (literals_read kind literals) v
stands_alike op kind literals v e = (λ i. list_any (λ l. stands_to_read op v (read_alike kind v l e i)) literals) ∙ stands_read op v (literal_read kind) literals

and_false : (a : Bool) → (a && false) ≡ false
and_false true = refl
and_false false = refl

-- both ends have to read
between_alike : (kind : Option Kind) (low high : List ℕ) (v : Value) → is_of_known_kind kind v ≡ true → text_is_between low high v ≡ is_between (literals_read kind (low ∷ high ∷ [])) v
between_alike kind low high v e = (λ i. stands_to_read ops.Ge v (read_alike kind v low e i) && stands_to_read ops.Le v (read_alike kind v high e i)) ∙ by (literal_read kind low) (literal_read kind high)
  where
    by : (a b : Option Value) → (stands_to_read ops.Ge v a && stands_to_read ops.Le v b) ≡ is_between (cons_option a (cons_option b [])) v
    by None None = refl
    by None (Some y) = refl
    by (Some x) None = and_false (stands ops.Ge (value_cmp v x))
    by (Some x) (Some y) = refl

value_fits : (kind : Option Kind) (o : Option Value) → IfSome o (λ v. is_of_known_kind kind v ≡ true) → AreOf kind (option_to_list o)
value_fits kind None h = tt
value_fits kind (Some v) h = (h, tt)

module _ (ds : List Definition) (graph : List Triple) (vars : List Variable) where
  -- ---- variables

  named_alike : (uids : List UidArg) → text_named_nodes (names_for false ds) vars uids ≡ named_nodes vars (map (node_of ds) uids)
  named_alike [] = refl
  named_alike (named.Uid n ∷ uids) = ap (λ ns. n ∷ ns) (named_alike uids)
  named_alike (named.Var x ∷ uids) = ap (λ ns. nodes_of vars (place_of ds x) ++ ns) (named_alike uids)

  compared_alike : (o : QOf) (node : ℕ) → text_compared graph (names_for false ds) vars o node ≡ compared graph vars (of_part ds o) node
  compared_alike (part.Pred p) node = refl
  compared_alike (part.Count edge) node = refl
  compared_alike (part.Val x) node = refl

  nodes_alike : (o : QOf) → text_nodes_of_part graph (names_for false ds) vars o ≡ nodes_of_part graph vars (of_part ds o)
  nodes_alike (part.Pred p) = refl
  nodes_alike (part.Count edge) = refl
  nodes_alike (part.Val x) = refl

  -- ---- patterns

  pattern_means : (p pattern : List ℕ) (fold : Bool) (node : ℕ) (f : Func) → IsPatternOf p pattern fold f → list_any (found_by pattern fold) (texts_at graph p node) ≡ holds_at graph vars node f
  pattern_means p pattern fold node (made.Regexp own regex) h =
      let back = sym h.0 in
      any_by (found_by pattern fold) (finds regex.value) (built_found pattern fold regex.value h.1) (texts_at graph p node) ∙ λ i. list_any (finds regex.value) (texts_at graph (back i) node)
  pattern_means p pattern fold node f h = absurd h

  pattern_nodes : (p pattern : List ℕ) (fold : Bool) (f : Func) → IsPatternOf p pattern fold f → text_candidates graph (names_for false ds) vars (said.Regexp p pattern fold) ≡ candidates graph vars f
  pattern_nodes p pattern fold (made.Regexp own regex) h = ap (λ q. text_candidates graph (names_for false ds) vars (said.Regexp q pattern fold)) (sym h.0)
  pattern_nodes p pattern fold f h = absurd h

  module _ (schema : List PredDef) where
    -- ---- what a root asks

    candidates_alike : (q : QFunc) (f : Func) → IsReadFunc schema ds q f → text_candidates graph (names_for false ds) vars q ≡ candidates graph vars f
    candidates_alike (said.Uid uids) f e = ap (ascending nat_cmp) (named_alike uids) ∙ ap (candidates graph vars) (sym e)
    candidates_alike (said.Cmp op o literals) f e = nodes_alike o ∙ ap (candidates graph vars) (sym e)
    candidates_alike (said.Between o low high) f e = nodes_alike o ∙ ap (candidates graph vars) (sym e)
    candidates_alike (said.Has edge) f e = ap (candidates graph vars) (sym e)
    candidates_alike (said.Terms all p text) f e = ap (candidates graph vars) (sym e)
    candidates_alike (said.Regexp p pattern fold) f h = pattern_nodes p pattern fold f h
    candidates_alike (said.UidIn edge uids) f e = ap (candidates graph vars) (sym e)

    module _ (lawful : IsLawful schema graph) (of_kind : AreOfKind ds vars) (node : ℕ) where
      compared_fit : (o : QOf) → AreOf (kind_of_part schema ds o) (text_compared graph (names_for false ds) vars o node)
      compared_fit (part.Pred p) = values_fit schema p node graph lawful.fit
      compared_fit (part.Count edge) = (refl, tt)
      compared_fit (part.Val x) = value_fits (kind_of_part schema ds (part.Val x)) (value_at vars (place_of ds x) node) (of_kind x node)

      -- two tests that agree on values of its kind agree on what is compared
      tests_alike : (o : QOf) (f g : Value → Bool) → ((v : Value) → is_of_known_kind (kind_of_part schema ds o) v ≡ true → f v ≡ g v) → list_any f (text_compared graph (names_for false ds) vars o node) ≡ list_any g (compared graph vars (of_part ds o) node)
      tests_alike o f g e =
          any_where (λ v. is_of_known_kind (kind_of_part schema ds o) v ≡ true) f g e (text_compared graph (names_for false ds) vars o node) (compared_fit o)
          ∙ ap (list_any g) (compared_alike o node)

      pub func_means : (q : QFunc) (f : Func) → IsReadFunc schema ds q f → text_holds_at graph (names_for false ds) vars node q ≡ holds_at graph vars node f
      func_means (said.Uid uids) f e = ap (λ ns. has nat_cmp ns node) (named_alike uids) ∙ ap (holds_at graph vars node) (sym e)
      func_means (said.Cmp op o literals) f e =
          tests_alike o (text_stands_to_any op literals) (stands_to_any op (values_beside schema ds o literals)) (stands_alike op (kind_of_part schema ds o) literals)
          ∙ ap (holds_at graph vars node) (sym e)
      func_means (said.Between o low high) f e =
          tests_alike o (text_is_between low high) (is_between (values_beside schema ds o (low ∷ high ∷ []))) (between_alike (kind_of_part schema ds o) low high)
          ∙ ap (holds_at graph vars node) (sym e)
      func_means (said.Has edge) f e = ap (holds_at graph vars node) (sym e)
      func_means (said.Terms all p text) f e = ap (holds_at graph vars node) (sym e)
      func_means (said.Regexp p pattern fold) f h = pattern_means p pattern fold node f h
      func_means (said.UidIn edge uids) f e = ap (λ ns. list_any (has nat_cmp ns) (nodes_along graph edge node)) (named_alike uids) ∙ ap (holds_at graph vars node) (sym e)

pub funcs_mean : FuncsMeanTheirTexts
funcs_mean schema ds graph vars node q f lawful of_kind is_ = func_means ds graph vars schema lawful of_kind node q f is_.0

pub roots_mean : RootsMeanTheirTexts
roots_mean schema ds graph vars q f lawful of_kind is_ =
    ap (filter (λ n. text_holds_at graph (names_for false ds) vars n q)) (candidates_alike ds graph vars schema q f is_.0)
    ∙ filter_same (λ n. text_holds_at graph (names_for false ds) vars n q) (λ n. holds_at graph vars n f) (candidates graph vars f) (λ n h. func_means ds graph vars schema lawful of_kind n q f is_.0)
