-- A commit that touches a guarded value has the key of the value's token among the keys by which it conflicts.
use Rattle.std.proofs.Common.{◌≡◌, ℕ, Bool, true, false, cond, List, [], ◌∷◌, ◌++◌, Option, Some, None, refl, ap, subst, sym, ◌∙◌}
use Rattle.std.specs.Prelude.{◌&&◌, ◌||◌, if◌then◌else◌, flat_map}
use Rattle.std.specs.Ordering.{is_eq}
use Rattle.dg_values.specs.Ascending.{has}
use Rattle.dg_values.specs.Order.{posting_cmp}
use Rattle.dg_values.specs.declared.value.Value.{Value}
use Rattle.dg_values.specs.declared.value.Posting.{Posting}
use Rattle.dg_values.specs.declared.value.Posting.TheVariants.{Val}
use Rattle.dg_values.proofs.OrderLaws.{posting_order}
use Rattle.dg_sets.proofs.Sets.{is_one, is_itself, has_more, has_joined}
use Rattle.dg_tokens.specs.declared.tokens.IndexToken.{IndexToken}
use Rattle.dg_tokens.specs.Orders.{index_token_cmp}
use Rattle.dg_tokens.proofs.TokenOrder.{index_token_order}
use Rattle.dg_schema.specs.declared.definition.PredDef.{PredDef}
use Rattle.dg_schema.specs.Definitions.{definition_of}
use Rattle.dg_graph.specs.declared.change.Triple.{Triple}
use Rattle.dg_graph.specs.declared.change.Change.{Change}
use Rattle.dg_graph.specs.Graphs.{after_change, after_changes}
use Rattle.dg_graph.specs.Lookups.{tokens_of_object}
use Rattle.dg_keys.specs.declared.conflict.ConflictKey.{ConflictKey}
use Rattle.dg_keys.specs.declared.conflict.ConflictKey.TheVariants.{Data, Index, Count}
use Rattle.dg_keys.specs.Conflicts.{conflict_cmp}
use Rattle.dg_keys.specs.KeyOrder.{conflict_order}
use Rattle.dg_zero.specs.Listings.{triple_of, touched, keys_of_token, keys_of_object, reverse_keys, keys_of_change, keys_of_changes}
use Rattle.dg_node.specs.Graphs.{Commit, committed_at}
use Rattle.dg_node.specs.Machine.{Machine}
use Rattle.dg_node.specs.Schemas.{schema_at}
use Rattle.dg_node.specs.Touching.{IsGuarded, Touches}
use Rattle.dg_node.specs.Transactions.{keys_at}

-- ---- members of joined lists

either_first : (a b : Bool) → a ≡ true → (a || b) ≡ true
either_first true b e = refl
either_first false b e = absurd (cc)

either_last : (a b : Bool) → b ≡ true → (a || b) ≡ true
either_last true b e = refl
either_last false b e = e

in_front : (key : ConflictKey) (xs ys : List ConflictKey) → has conflict_cmp xs key ≡ true → has conflict_cmp (xs ++ ys) key ≡ true
in_front key xs ys h = has_joined conflict_cmp conflict_order xs ys key ∙ either_first (has conflict_cmp xs key) (has conflict_cmp ys key) h

in_back : (key : ConflictKey) (xs ys : List ConflictKey) → has conflict_cmp ys key ≡ true → has conflict_cmp (xs ++ ys) key ≡ true
in_back key xs ys h = has_joined conflict_cmp conflict_order xs ys key ∙ either_last (has conflict_cmp xs key) (has conflict_cmp ys key) h

-- ---- the key of a token

module _ (def : PredDef) (t : Triple) (token : IndexToken) (upsert : def.upsert ≡ true) where
  abbrev guard : ConflictKey
  guard = Index t.p token None

  own_key : has conflict_cmp (keys_of_token def t token) guard ≡ true
  own_key =
      let back = sym upsert in
      subst (λ (b : Bool). has conflict_cmp (Index t.p token (Some t.s) ∷ cond b (guard ∷ []) []) guard ≡ true) back
      (either_last (is_eq (conflict_cmp (Index t.p token (Some t.s)) guard)) (has conflict_cmp (guard ∷ []) guard)
      (either_first (is_eq (conflict_cmp guard guard)) false (is_itself conflict_cmp conflict_order guard)))

  token_key : (tokens : List IndexToken) → has index_token_cmp tokens token ≡ true → has conflict_cmp (flat_map (keys_of_token def t) tokens) guard ≡ true
  token_key [] h = absurd (cc)
  token_key (x ∷ xs) h = by (is_eq (index_token_cmp x token)) refl h (λ k. token_key xs k)
    where
      by : (v : Bool) → is_eq (index_token_cmp x token) ≡ v → (v || has index_token_cmp xs token) ≡ true → (has index_token_cmp xs token ≡ true → has conflict_cmp (flat_map (keys_of_token def t) xs) guard ≡ true) → has conflict_cmp (keys_of_token def t x ++ flat_map (keys_of_token def t) xs) guard ≡ true
      by true e k more =
          let same : token ≡ x = sym (is_one index_token_cmp index_token_order x token e) in
          in_front guard (keys_of_token def t x) (flat_map (keys_of_token def t) xs)
          (subst (λ (y : IndexToken). has conflict_cmp (keys_of_token def t y) guard ≡ true) same own_key)
      by false e k more = in_back guard (keys_of_token def t x) (flat_map (keys_of_token def t) xs) (more k)

  -- the tokens of an object
  abbrev filed : Posting → List IndexToken
  filed o = flat_map (λ tokenizer. tokens_of_object tokenizer o) def.tokens

  -- the tokens of the value are those of an object of these
  object_key : (value : Value) → has index_token_cmp (filed (Val value)) token ≡ true → (os : List Posting) → has posting_cmp os (Val value) ≡ true → has conflict_cmp (flat_map (keys_of_object def t) os) guard ≡ true
  object_key value h [] there = absurd (cc)
  object_key value h (o ∷ os) there = by (is_eq (posting_cmp o (Val value))) refl there (λ k. object_key value h os k)
    where
      by : (v : Bool) → is_eq (posting_cmp o (Val value)) ≡ v → (v || has posting_cmp os (Val value)) ≡ true → (has posting_cmp os (Val value) ≡ true → has conflict_cmp (flat_map (keys_of_object def t) os) guard ≡ true) → has conflict_cmp (keys_of_object def t o ++ flat_map (keys_of_object def t) os) guard ≡ true
      by true e k more =
          let same : Val value ≡ o = sym (is_one posting_cmp posting_order o (Val value) e) in
          in_front guard (keys_of_object def t o) (flat_map (keys_of_object def t) os)
          (subst (λ (x : Posting). has conflict_cmp (keys_of_object def t x) guard ≡ true) same (token_key (filed (Val value)) h))
      by false e k more = in_back guard (keys_of_object def t o) (flat_map (keys_of_object def t) os) (more k)

-- ---- the key of a change

-- the keys by which a change conflicts, beside those of the objects that it touches
abbrev data_key : PredDef → Triple → ConflictKey
data_key def t = Data t.p t.s (if def.list then Some t.o else None)

abbrev counts : PredDef → Triple → List Posting → List ConflictKey
counts def t os = (if def.count then Count t.p t.s ∷ [] else []) ++ (if def.reverse && def.count then flat_map (reverse_keys t) os else [])

-- a change that touches the value
change_key : (def : PredDef) (graph : List Triple) (change : Change) (value : Value) (token : IndexToken) → def.upsert ≡ true → has posting_cmp (touched def graph change) (Val value) ≡ true → has index_token_cmp (flat_map (λ tokenizer. tokens_of_object tokenizer (Val value)) def.tokens) token ≡ true → has conflict_cmp (keys_of_change (Some def) graph change) (Index (triple_of change).p token None) ≡ true
change_key def graph change value token upsert there h =
    let t : Triple = triple_of change in
    let os : List Posting = touched def graph change in
    let key : ConflictKey = Index t.p token None in
    either_last (is_eq (conflict_cmp (data_key def t) key)) (has conflict_cmp (flat_map (keys_of_object def t) os ++ counts def t os) key)
    (in_front key (flat_map (keys_of_object def t) os) (counts def t os) (object_key def t token upsert value h os there))

changes_key : (schema : List PredDef) (key : ConflictKey) (change : Change) (after : List Change) (graph : List Triple) (before : List Change) → has conflict_cmp (keys_of_change (definition_of schema (triple_of change).p) (after_changes schema graph before) change) key ≡ true → has conflict_cmp (keys_of_changes schema graph (before ++ change ∷ after)) key ≡ true
changes_key schema key change after graph [] own =
    in_front key (keys_of_change (definition_of schema (triple_of change).p) graph change) (keys_of_changes schema (after_change schema graph change) after) own
changes_key schema key change after graph (c ∷ before) own =
    in_back key (keys_of_change (definition_of schema (triple_of c).p) graph c) (keys_of_changes schema (after_change schema graph c) (before ++ change ∷ after))
    (changes_key schema key change after (after_change schema graph c) before own)

-- the key of the token is among those of the commit
pub guard_key : (m : Machine) (p : List ℕ) (value : Value) (token : IndexToken) (commit : Commit) (g : IsGuarded (schema_at m.alters commit.start) p value token) → Touches g.def m p value commit → has conflict_cmp (keys_at m commit.start commit.changes) (Index p token None) ≡ true
guard_key m p value token commit g w =
    let schema : List PredDef = schema_at m.alters commit.start in
    let graph : List Triple = committed_at m.alters m.commits commit.start in
    let seen : List Triple = after_changes schema graph w.before in
    let changes_back = sym w.stands in
    let declared : definition_of schema (triple_of w.change).p ≡ Some g.def = ap (λ (q : List ℕ). definition_of schema q) w.pred ∙ g.declared in
    let declared_back = sym declared in
    let key : ConflictKey = Index (triple_of w.change).p token None in
    let own : has conflict_cmp (keys_of_change (definition_of schema (triple_of w.change).p) seen w.change) key ≡ true
    = subst (λ (d : Option PredDef). has conflict_cmp (keys_of_change d seen w.change) key ≡ true) declared_back (change_key g.def seen w.change value token g.upsert w.there g.filed) in
    let all : has conflict_cmp (keys_of_changes schema graph commit.changes) key ≡ true
    = subst (λ (cs : List Change). has conflict_cmp (keys_of_changes schema graph cs) key ≡ true) changes_back (changes_key schema key w.change w.after graph w.before own) in
    let at_p : has conflict_cmp (keys_of_changes schema graph commit.changes) (Index p token None) ≡ true
    = subst (λ (q : List ℕ). has conflict_cmp (keys_of_changes schema graph commit.changes) (Index q token None) ≡ true) w.pred all in
    has_more conflict_cmp conflict_order [] (keys_of_changes schema graph commit.changes) (Index p token None) ∙ at_p
