-- Which fields are read.
use Rattle.std.proofs.Common.{inl, inr, ◌≡◌, ℕ, zero, suc, ◌<◌, Bool, true, false, ◌||◌, List, [], ◌∷◌, length, ap, refl, sym, ◌∙◌, subst, arith}
use Rattle.std.specs.Prelude.{◌⊎◌, Some, None, Ok, Err, is_some, not, ◌&&◌, codes}
use Rattle.std.specs.Str.{bytes_eq}
use Rattle.std.proofs.lemmas.Bool.{false≢true}
use Rattle.std.proofs.lemmas.Slice.Eq.{bytes_eq-Decides}
use Rattle.dg_table.specs.Words.{named_in}
use Rattle.dg_text.specs.Cases.{Left, Reader}
use Rattle.dg_text.specs.Marks.{open_round, close_round, open_curly, close_curly, comma, tilde, colon}
use Rattle.dg_text.specs.Reading.{Read, next, next_two}
use Rattle.dg_text.specs.Tokens.{Tok, is_name, is_punct, is_word}
use Rattle.dg_text.specs.Words.{name_meant, is_reserved_name}
use Rattle.dg_parse.specs.declared.fronts.Front.{Front}
use Rattle.dg_parse.specs.declared.items.Around.{Around}
use Rattle.dg_parse.specs.declared.items.Start.{Start}
use Rattle.dg_parse.specs.declared.query.AggOp.{AggOp}
use Rattle.dg_parse.specs.declared.query.QField.{QField}
use Rattle.dg_parse.specs.declared.query.QItem.{QItem}
use Rattle.dg_parse.specs.declared.query.QItem.TheVariants as items
use Rattle.dg_parse.specs.declared.query.QItem.TheOpen.{QItem-F}
use Rattle.dg_parse.specs.declared.query.QItem.TheViews.{out-QItem}
use Rattle.dg_parse.specs.Fields.{uid_item, count_uid, count_edge, count_item, val_item, agg_item, braces, edge_item, begins_aggregate, begins_other, item, front, any_comma, field, begins_field, some_fields, fields}
use Rattle.dg_parse.specs.Keys.{edge_text, count_key, val_key, agg_key, is_key, is_alias}
use Rattle.dg_parse.specs.Names.{Defined, pred, backwards, edge, variable, any_variable, alias, any_alias}
use Rattle.dg_parse.specs.Words.{aggregate_words, aggregate_meant}
use Rattle.dg_print.proofs.Again.{Each, Took, Passed, bind, gives, weaker, either, at_one, at_skip, at_also, at_here, some_passed}
use Rattle.dg_print.proofs.ArgumentsAgain.{at_args}
use Rattle.dg_print.proofs.DirectivesAgain.{at_dirs}
use Rattle.dg_print.proofs.FieldWords.{Layer, agg_layer, edge_owner, AreBraces, IsLayer, IsAnyName, IsField, AreFields}
use Rattle.dg_print.proofs.Lists.{Added, at_repeated, Items}
use Rattle.dg_print.proofs.NamesAgain.{at_name, at_edge, at_val, at_round_name, says_name}

-- ---- what begins there

-- an aggregate begins there, or else another item
pub record Begins (agg : Bool) (tokens : List Tok) : Type 0 where
  pub aggregate : begins_aggregate tokens ≡ agg
  pub other : begins_other tokens ≡ not agg
  pub some : 0 < length tokens

begins_first : (t : Tok) (rest tokens : List Tok) (found : Bool) (agg : Bool) → tokens ≡ t ∷ rest → (is_name t || is_punct tilde t) ≡ true → is_some (aggregate_meant t) ≡ agg → Begins agg tokens
begins_first t rest tokens found agg e n a =
    let here : Begins agg (t ∷ rest) = record { aggregate = a; other = rw (n, a) refl; some = omega arith } in
    subst (λ (l : List Tok). Begins agg l) (sym e) here

pub and_left : (a b : Bool) → (a && b) ≡ true → a ≡ true
and_left true b e = refl
and_left false b e = e

pub and_right : (a b : Bool) → (a && b) ≡ true → b ≡ true
and_right true b e = e
and_right false b e = absurd (false≢true e)

-- a word that is no aggregate's
word_begins : (w : List ℕ) (tokens : List Tok) → is_some (named_in aggregate_words w) ≡ false → Passed (is_word w) tokens → Begins false tokens
word_begins w tokens none p =
    let t : Tok = p.token in
    let named : is_name t ≡ true = and_left (is_name t) (bytes_eq t.text w) p.means in
    let text : t.text ≡ w = (bytes_eq-Decides t.text w).0 (and_right (is_name t) (bytes_eq t.text w) p.means) in
    begins_first t p.rest tokens false false p.first (rw named refl) (rw (named, text) none)

agg_begins : (op : AggOp) (tokens : List Tok) → Took aggregate_meant tokens op → Begins true tokens
agg_begins op tokens k = begins_first k.token k.rest tokens true true k.first (named (is_name k.token) refl k.means) (ap is_some k.means)
  where
    named : (b : Bool) → is_name k.token ≡ b → aggregate_meant k.token ≡ Some op → (is_name k.token || is_punct tilde k.token) ≡ true
    named true e m = rw e refl
    named false e m = let none : None ≡ Some op = rw e at m in absurd (cc)

both : {A : Type 0} {left : Left} {read : Read Left A} {X Y : A → Left → Type 0} → Each left read X → Each left read Y → Each left read (λ x l. X x l × Y x l)
both {read = Ok p} a b = record { it = record { formed = a.it.formed; earlier = a.it.earlier; so = λ f z. (a.it.so f z, b.it.so f z) } }
both {read = Err place} a b = record { it = tt }

-- ---- a name or "~"

name_first : (tokens : List Tok) (x : List ℕ) → Took name_meant tokens x → begins_field tokens ≡ true
name_first tokens x k =
    let s = says_name k.token x k.means in
    subst (λ (l : List Tok). begins_field l ≡ true) (sym k.first) (rw s.named refl)

pred_first : (left : Left) → Each left (pred left) (λ p l. begins_field left.tokens ≡ true)
unfolding pred
pred_first left = bind _ (at_also (length left.tokens) (next is_reserved_name left.tokens && true) left)
    (λ _ l. weaker (at_one name_meant l) (λ x k took also. subst (λ (ts : List Tok). begins_field ts ≡ true) also.1 (name_first l.tokens x took)))

-- an edge begins with a Name or with "~"
edge_first : (left : Left) → Each left (edge left) (λ e l. begins_field left.tokens ≡ true)
unfolding edge backwards
edge_first left =
    bind {X = λ _ l. (begins_field left.tokens ≡ true) ⊎ (l.tokens ≡ left.tokens)} _ (either (next (is_punct tilde) left.tokens)
    (λ e. bind _ (at_skip (is_punct tilde) left) (λ _ l. gives true l (λ p. inl (tilde_first p))))
    (λ e. gives false left (inr refl)))
    (λ back l. bind _ (pred_first l) (λ p k. gives _ k (λ h first. elim first [ inl b ↦ b | inr e ↦ subst (λ (ts : List Tok). begins_field ts ≡ true) e h ])))
  where
    or_true : (b : Bool) → (b || true) ≡ true
    or_true true = refl
    or_true false = refl

    tilde_first : Passed (is_punct tilde) left.tokens → begins_field left.tokens ≡ true
    tilde_first p = subst (λ (l : List Tok). begins_field l ≡ true) (sym p.first) (rw p.means (or_true (is_name p.token)))

edge_begins : (tokens : List Tok) → begins_field tokens ≡ true → begins_aggregate tokens ≡ false → Begins false tokens
edge_begins [] e a = absurd (false≢true e)
edge_begins (t ∷ rest) e a = begins_first t rest (t ∷ rest) false false refl e a

-- ---- in front of an item

-- a variable and its place
pub record IsVar (v : Defined) : Type 0 where
  pub word : IsAnyName v.0
  pub some : is_some v.0 ≡ true → 0 < v.1

at_variable : (left : Left) → Each left (variable left) (λ v l. IsVar v)
unfolding variable
at_variable left =
    bind _ (at_name left)
    (λ x l. bind _ (at_here l)
    (λ place k. bind _ (at_skip (is_word (codes "as")) k)
    (λ _ m. gives {A = Defined} (Some x, place) m (λ p here h. record { word = h; some = λ e. subst (λ (n : ℕ). 0 < n) (sym here) (some_passed p) }))))

pub at_any_variable : (left : Left) → Each left (any_variable left) (λ v l. IsVar v)
unfolding any_variable
at_any_variable left = either (next_two is_name (is_word (codes "as")) left.tokens)
    (λ e. at_variable left)
    (λ e. gives _ left (record { word = tt; some = λ h. absurd (false≢true h) }))

at_any_alias : (left : Left) → Each left (any_alias left) (λ a l. IsAnyName a)
unfolding any_alias alias
at_any_alias left = either (next_two is_name (is_punct colon) left.tokens)
    (λ e. bind _ (at_name left) (λ x l. bind _ (at_skip (is_punct colon) l) (λ _ k. gives _ k (λ _ h. h))))
    (λ e. gives None left tt)

-- what was read in front of an item, and what of the item is known by it
pub record IsFront (b : Around) (before : List QField) (f : Front) (tokens : List Tok) : Type 0 where
  pub var : IsAnyName f.var
  pub var_fits : (is_some f.var && (not b.has_func || b.recurse)) ≡ false
  pub alias_name : IsAnyName f.alias
  pub alias_new : 0 < length tokens → is_alias before f.alias ≡ false
  pub agg_fits : 0 < length tokens → (begins_aggregate tokens && b.has_func) ≡ false
  pub other_fits : 0 < length tokens → (begins_other tokens && not b.has_func) ≡ false
  pub has_var : f.start.has_var ≡ is_some f.var
  pub has_alias : f.start.has_alias ≡ is_some f.alias
  pub as_place : f.start.has_var ≡ true → 0 < f.start.as_place
  pub place : f.start.place ≡ length tokens

var_fits : (v : Defined) (test : Bool) → IsVar v → (0 < v.1 → (is_some v.0 && test) ≡ false) → (is_some v.0 && test) ≡ false
var_fits (None, n) test v e = refl
var_fits (Some x, n) test v e = e (v.some refl)

at_front : (b : Around) (before : List QField) (left : Left) → Each left (front b before left) (λ f l. IsFront b before f l.tokens)
unfolding front
at_front b before left =
    bind _ (at_any_variable left)
    (λ v l. bind _ (at_also v.1 (is_some v.0 && (not b.has_func || b.recurse)) l)
    (λ _ k. bind _ (at_any_alias k)
    (λ a m. bind _ (at_here m)
    (λ place n. bind _ (at_also place (is_alias before a) n)
    (λ _ p. bind _ (at_also (length p.tokens) (begins_aggregate p.tokens && b.has_func) p)
    (λ _ q. bind _ (at_also (length q.tokens) (begins_other q.tokens && not b.has_func) q)
    (λ _ r. gives _ r (λ other agg al here ha var hv.
    let eq : r.tokens ≡ p.tokens = other.1 ∙ agg.1 in
    let en : r.tokens ≡ n.tokens = eq ∙ al.1 in
    let at_place : place ≡ length r.tokens = here ∙ sym (ap (λ l. length l) en) in
    record {
      var = hv.word;
      var_fits = var_fits v (not b.has_func || b.recurse) hv var.0;
      alias_name = ha;
      alias_new = λ lt. al.0 (subst (λ (n : ℕ). 0 < n) (sym at_place) lt);
      agg_fits = subst (λ (ts : List Tok). 0 < length ts → (begins_aggregate ts && b.has_func) ≡ false) (sym eq) agg.0;
      other_fits = subst (λ (ts : List Tok). 0 < length ts → (begins_other ts && not b.has_func) ≡ false) (sym other.1) other.0;
      has_var = refl;
      has_alias = refl;
      as_place = hv.some;
      place = at_place;
    }))))))))

-- ---- items

-- the places in front of an item
pub record Placed (s : Start) : Type 0 where
  pub place : 0 < s.place
  pub as_place : s.has_var ≡ true → 0 < s.as_place

no_var : (s : Start) → Placed s → (0 < s.as_place → s.has_var ≡ false) → s.has_var ≡ false
no_var s p h = by s.has_var refl
  where
    by : (b : Bool) → s.has_var ≡ b → s.has_var ≡ false
    by true e = h (p.as_place e)
    by false e = e

module _ (b : Around) (I : List QField → Type 0) (inner : Reader (List QField)) (one : (l : Left) → Each l (inner l) (λ fs k. I fs)) where
  -- an item that was read, with what begins it
  record ReadLayer (s : Start) (before : List QField) (tokens : List Tok) (o : Layer) : Type 0 where
    pub good : Placed s → IsLayer b I s.has_var s.has_alias before o
    pub begins : Begins (agg_layer o) tokens

  abbrev ReadItem : Start → List QField → List Tok → QItem → Type 0
  ReadItem s before tokens i = ReadLayer s before tokens (out-QItem i)

  as_item : (s : Start) (before : List QField) (tokens : List Tok) (i : QItem) (o : Layer) → out-QItem i ≡ o → ReadLayer s before tokens o → ReadItem s before tokens i
  as_item s before tokens i o e r = subst (λ (o : Layer). ReadLayer s before tokens o) (sym e) r

  at_uid : (s : Start) (before : List QField) (left : Left) → Each left (uid_item s before left) (λ i l. ReadItem s before left.tokens i)
  unfolding uid_item
  at_uid s before left =
      bind _ (at_skip (is_word (codes "uid")) left)
      (λ _ l. bind _ (at_also s.place (not s.has_alias && is_key before (codes "uid")) l)
      (λ _ k. gives _ k (λ key word. as_item s before left.tokens items.Uid QItem-F.Uid items.outs-Uid (record { good = λ p. key.0 p.place; begins = word_begins (codes "uid") left.tokens refl word }))))

  at_count : (s : Start) (before : List QField) (left : Left) → Each left (count_item b s before left) (λ i l. ReadItem s before left.tokens i)
  unfolding count_item count_uid count_edge
  at_count s before left =
      bind _ (at_skip (is_word (codes "count")) left)
      (λ _ l. bind _ (at_skip (is_punct open_round) l)
      (λ _ k. either (next (is_word (codes "uid")) k.tokens)
      (λ e. bind _ (at_skip (is_word (codes "uid")) k)
      (λ _ m. bind _ (at_skip (is_punct close_round) m)
      (λ _ n. bind _ (at_also s.as_place s.has_var n)
      (λ _ p. bind _ (at_also s.place b.recurse p)
      (λ _ q. bind _ (at_also s.place (not s.has_alias && is_key before (codes "count")) q)
      (λ _ r. gives _ r (λ key rec var _ _ _ word. as_item s before left.tokens items.CountUid QItem-F.CountUid items.outs-CountUid (record {
        good = λ pl. (no_var s pl var.0, rec.0 pl.place, key.0 pl.place);
        begins = word_begins (codes "count") left.tokens refl word;
      }))))))))
      (λ e. bind _ (at_edge k)
      (λ edg m. bind _ (at_skip (is_punct close_round) m)
      (λ _ n. bind _ (at_also s.place (not s.has_alias && is_key before (count_key edg)) n)
      (λ _ p. gives _ p (λ key _ h _ word. as_item s before left.tokens (items.Count edg) (QItem-F.Count edg) (items.outs-Count edg) (record {
        good = λ pl. (h, key.0 pl.place);
        begins = word_begins (codes "count") left.tokens refl word;
      }))))))))

  at_val_item : (s : Start) (before : List QField) (left : Left) → Each left (val_item s before left) (λ i l. ReadItem s before left.tokens i)
  unfolding val_item
  at_val_item s before left =
      bind _ (at_skip (is_word (codes "val")) left)
      (λ _ l. bind _ (at_also s.as_place s.has_var l)
      (λ _ k. bind _ (at_round_name k)
      (λ x m. bind _ (at_also s.place (not s.has_alias && is_key before (val_key x)) m)
      (λ _ n. gives _ n (λ key h var word. as_item s before left.tokens (items.Val x) (QItem-F.Val x) (items.outs-Val x) (record {
        good = λ pl. (h, no_var s pl var.0, key.0 pl.place);
        begins = word_begins (codes "val") left.tokens refl word;
      }))))))

  at_agg : (s : Start) (before : List QField) (left : Left) → Each left (agg_item s before left) (λ i l. ReadItem s before left.tokens i)
  unfolding agg_item
  at_agg s before left =
      bind _ (at_one aggregate_meant left)
      (λ op l. bind _ (at_skip (is_punct open_round) l)
      (λ _ k. bind _ (at_val k)
      (λ x m. bind _ (at_skip (is_punct close_round) m)
      (λ _ n. bind _ (at_also s.place (not s.has_alias && is_key before (agg_key op x)) n)
      (λ _ p. gives _ p (λ key _ h _ took. as_item s before left.tokens (items.Agg op x) (QItem-F.Agg op x) (items.outs-Agg op x) (record {
        good = λ pl. (h, key.0 pl.place);
        begins = agg_begins op left.tokens took;
      })))))))

  at_braces : (left : Left) → next (is_punct open_curly) left.tokens ≡ true → Each left (braces b inner left) (λ fs l. AreBraces b I fs)
  unfolding braces
  at_braces left e =
      bind _ (at_also (length left.tokens) (next (is_punct open_curly) left.tokens && b.recurse) left)
      (λ _ l. bind _ (at_skip (is_punct open_curly) l)
      (λ _ k. bind _ (one k)
      (λ fs m. bind _ (at_skip (is_punct close_curly) m)
      (λ _ n. gives (Some fs) n (λ _ h p also.
      let some : 0 < length left.tokens = subst (λ (ts : List Tok). 0 < length ts) also.1 (some_passed p) in
      let test : (next (is_punct open_curly) left.tokens && b.recurse) ≡ false = also.0 some in
      (rw e at test, h))))))

  at_edge_item : (s : Start) (before : List QField) (left : Left) → begins_aggregate left.tokens ≡ false → Each left (edge_item b inner s before left) (λ i l. ReadItem s before left.tokens i)
  unfolding edge_item
  at_edge_item s before left none =
      bind _ (both (at_edge left) (edge_first left))
      (λ e l. bind _ (at_also s.place (not s.has_alias && is_key before (edge_text e)) l)
      (λ _ k. bind _ (at_args k)
      (λ args m. bind _ (at_dirs (edge_owner b) m)
      (λ marks n. bind {X = λ fs _. AreBraces b I fs} _ (either (next (is_punct open_curly) n.tokens) (λ e. at_braces n e) (λ e. gives None n tt))
      (λ fs p. gives _ p (λ hf hd ha key he. as_item s before left.tokens (items.Edge e args marks.dirs fs) (QItem-F.Edge e args marks.dirs fs) (items.outs-Edge e args marks.dirs fs) (record {
        good = λ pl. record { pred = he.0; key = key.0 pl.place; args_are = ha; marks = marks; dirs_are = hd; dirs_is = refl; braces_are = hf };
        begins = edge_begins left.tokens he.1 none;
      })))))))

  at_item : (s : Start) (before : List QField) (left : Left) → Each left (item b inner s before left) (λ i l. ReadItem s before left.tokens i)
  unfolding item
  at_item s before left = either (next (is_word (codes "uid")) left.tokens)
      (λ e. at_uid s before left)
      (λ e. either (next (is_word (codes "count")) left.tokens)
      (λ e. at_count s before left)
      (λ e. either (next (is_word (codes "val")) left.tokens)
      (λ e. at_val_item s before left)
      (λ e. either (begins_aggregate left.tokens)
      (λ e. at_agg s before left)
      (λ none. at_edge_item s before left none))))

  -- ---- fields

  field_is : (before : List QField) (f : Front) (i : QItem) (tokens : List Tok) → IsFront b before f tokens → ReadItem f.start before tokens i → IsField b I before (record { var = f.var; alias = f.alias; item = i })
  field_is before f i tokens h r =
      let some : 0 < length tokens = r.begins.some in
      let pl : Placed f.start = record { place = subst (λ (n : ℕ). 0 < n) (sym h.place) some; as_place = h.as_place } in
      record {
        var = h.var;
        var_fits = h.var_fits;
        alias_name = h.alias_name;
        alias_new = h.alias_new some;
        agg_fits = ap (λ t. t && b.has_func) (sym r.begins.aggregate) ∙ h.agg_fits some;
        other_fits = ap (λ t. t && not b.has_func) (sym r.begins.other) ∙ h.other_fits some;
        layer = subst (λ (v : Bool). IsLayer b I v (is_some f.alias) before (out-QItem i)) h.has_var
            (subst (λ (a : Bool). IsLayer b I f.start.has_var a before (out-QItem i)) h.has_alias (r.good pl));
      }

  at_any_comma : (left : Left) → Each left (any_comma left) (λ _ _. Unit {0})
  at_any_comma left = either (next (is_punct comma) left.tokens) (λ e. weaker (at_skip (is_punct comma) left) (λ _ _ _. tt)) (λ e. gives tt left tt)

  at_field : (before : List QField) (left : Left) → Each left (field b inner before left) (λ all l. Added (IsField b I) before all)
  unfolding field
  at_field before left =
      bind _ (at_front b before left)
      (λ f l. bind _ (at_item f.start before l)
      (λ i k. bind _ (at_any_comma k)
      (λ _ m. gives _ m (λ _ r h. record { item = record { var = f.var; alias = f.alias; item = i }; is = refl; good = field_is before f i l.tokens h r }))))

  at_some_fields : (left : Left) → Each left (some_fields b inner left) (λ all l. Items (IsField b I) [] all)
  at_some_fields left = weaker (at_repeated begins_field (field b inner) (IsField b I) at_field [] left)
      (λ all l a. subst (λ (fs : List QField). Items (IsField b I) [] fs) (sym a.is) a.good)

pub at_fields : (b : Around) (depth : ℕ) (left : Left) → Each left (fields b depth left) (λ all l. AreFields b depth all)
unfolding fields AreFields
at_fields b zero left = record { it = tt }
at_fields b (suc depth) left = at_some_fields b (λ gs. AreFields b depth gs) (fields b depth) (at_fields b depth) left
