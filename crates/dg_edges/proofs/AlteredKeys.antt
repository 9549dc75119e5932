-- Newer definitions list what the older ones do, or the subjects of their predicates are read.
use Rattle.std.proofs.Common.{◌≡◌, ℕ, nat_le, Bool, true, false, cond, List, [], ◌∷◌, Option, Some, None, length, map, refl, ap, subst, sym, ◌∙◌, ◌⊎◌, inl, inr}
use Rattle.std.specs.Prelude.{◌==◌, ◌&&◌, ◌||◌, not}
use Rattle.std.specs.List.{AllByRecursion, list_any}
use Rattle.std.specs.List.Sorted.{IsPermutation}
use Rattle.std.specs.Option.{option_or}
use Rattle.std.proofs.lemmas.Bool.{both_ways, or_parts}
use Rattle.std.specs.Ordering.{is_eq, nat_cmp}
use Rattle.dg_values.specs.Ascending.{Ascends, has}
use Rattle.dg_values.specs.Order.{same_text, tokenizer_cmp, text_cmp, posting_cmp}
use Rattle.dg_values.specs.declared.kind.Tokenizer.{Tokenizer}
use Rattle.dg_values.specs.declared.value.Posting.{Posting}
use Rattle.dg_values.specs.declared.value.Posting.TheVariants.{Uid}
use Rattle.dg_sets.proofs.MadeOrders.{text_order}
use Rattle.dg_sets.proofs.Sets.{is_one, is_itself, has_joined}
use Rattle.dg_tokens.proofs.TokenOrder.{tokenizer_order}
use Rattle.dg_schema.specs.declared.definition.PredDef.{PredDef}
use Rattle.dg_schema.specs.Definitions.{AreDistinct, definition_of, with_definitions}
use Rattle.dg_schema.proofs.Joining.{definition_joined}
use Rattle.dg_schema.proofs.Names.{same_text-equal}
use Rattle.dg_graph.specs.declared.change.Triple.{Triple}
use Rattle.dg_graph.specs.Graphs.{objects, IsLawful}
use Rattle.dg_graph.specs.Lookups.{has_token, holders}
use Rattle.dg_graph.proofs.LookUpLaws.{where_are}
use Rattle.dg_keys.specs.declared.key.Key.{Key}
use Rattle.dg_keys.specs.declared.key.Key.TheVariants as keys
use Rattle.dg_keys.specs.declared.record.Part.{Part}
use Rattle.dg_keys.specs.Keys.{key_cmp, part_cmp, ops_at}
use Rattle.dg_keys.specs.KeyOrder.{key_order}
use Rattle.dg_zero.specs.Listings.{AreGainsAndLosses, listing, listing_by}
use Rattle.dg_edges.specs.Altering.{has_each, are_alike, list_alike, is_reread, reread_keys, altered_keys, filed_under_schema, altered_parts}
use Rattle.dg_edges.proofs.AlterLaws.{AreAlike, AreRead}
use Rattle.dg_edges.proofs.AlterParts.{both_apart, both_gains}
use Rattle.dg_edges.proofs.EdgeLaws.{none_listed}
use Rattle.dg_edges.proofs.FilingLaws.{IsOfSubject, all_flat, all_mapped, listed_under, parts_equal}
use Rattle.dg_edges.proofs.JoinLaws.{AreApart}

-- ---- one index, reverse and count

both_true : (a b : Bool) → (a && b) ≡ true → (a ≡ true) × (b ≡ true)
both_true true b e = (refl, e)
both_true false b e = absurd (cc)

flags_same : (a b : Bool) → are_alike a b ≡ true → a ≡ b
flags_same true b e = sym e
flags_same false true e = absurd (cc)
flags_same false false e = refl

each_has : (ts us : List Tokenizer) (t : Tokenizer) → has_each ts us ≡ true → has tokenizer_cmp us t ≡ true → has tokenizer_cmp ts t ≡ true
each_has ts [] t e h = absurd (cc)
each_has ts (u ∷ us) t e h = by (is_eq (tokenizer_cmp u t)) refl h (λ k. each_has ts us t both.1 k)
  where
    both : (has tokenizer_cmp ts u ≡ true) × (has_each ts us ≡ true)
    both = both_true (has tokenizer_cmp ts u) (has_each ts us) e

    by : (v : Bool) → is_eq (tokenizer_cmp u t) ≡ v → (v || has tokenizer_cmp us t) ≡ true → (has tokenizer_cmp us t ≡ true → has tokenizer_cmp ts t ≡ true) → has tokenizer_cmp ts t ≡ true
    by true f k rest = subst (λ (w : Tokenizer). has tokenizer_cmp ts w ≡ true) (is_one tokenizer_cmp tokenizer_order u t f) both.0
    by false f k rest = rest k

same_has : (ts us : List Tokenizer) (t : Tokenizer) → has_each ts us ≡ true → has_each us ts ≡ true → has tokenizer_cmp ts t ≡ has tokenizer_cmp us t
same_has ts us t e f = by (has tokenizer_cmp ts t) (has tokenizer_cmp us t) refl refl
  where
    by : (v w : Bool) → has tokenizer_cmp ts t ≡ v → has tokenizer_cmp us t ≡ w → v ≡ w
    by true true x y = refl
    by true false x y = absurd (both_ways (has tokenizer_cmp us t) y (each_has us ts t f x))
    by false true x y = absurd (both_ways (has tokenizer_cmp ts t) x (each_has ts us t e y))
    by false false x y = refl

-- so they list the same
alike_by : (d e : PredDef) → list_alike d e ≡ true → AreAlike (Some d) (Some e)
alike_by d e h = record { listed = listed; counted = λ i. reverse i && count i }
  where
    halves : ((has_each d.tokens e.tokens && has_each e.tokens d.tokens) ≡ true) × ((are_alike d.reverse e.reverse && are_alike d.count e.count) ≡ true)
    halves = both_true (has_each d.tokens e.tokens && has_each e.tokens d.tokens) (are_alike d.reverse e.reverse && are_alike d.count e.count) h

    tokens : (has_each d.tokens e.tokens ≡ true) × (has_each e.tokens d.tokens ≡ true)
    tokens = both_true (has_each d.tokens e.tokens) (has_each e.tokens d.tokens) halves.0

    flags : (are_alike d.reverse e.reverse ≡ true) × (are_alike d.count e.count ≡ true)
    flags = both_true (are_alike d.reverse e.reverse) (are_alike d.count e.count) halves.1

    reverse : d.reverse ≡ e.reverse
    reverse = flags_same d.reverse e.reverse flags.0

    count : d.count ≡ e.count
    count = flags_same d.count e.count flags.1

    listed : (key : Key) (os : List Posting) → listed_under (Some d) key os ≡ listed_under (Some e) key os
    listed (keys.Data p s) os = refl
    listed (keys.Index p t) os = λ i. same_has d.tokens e.tokens t.tokenizer tokens.0 tokens.1 i && list_any (has_token t) os
    listed (keys.Reverse p o) os = λ i. reverse i && has posting_cmp os (Uid o)
    listed (keys.Count p n) os = λ i. count i && (nat_le 1 n && (length os == n))
    listed (keys.RCount p n) os = refl

-- ---- which keys are read

has_subject : (p : List ℕ) (s : ℕ) (ns : List ℕ) → has key_cmp (map (keys.Data p) ns) (keys.Data p s) ≡ has nat_cmp ns s
has_subject p s [] = refl
has_subject p s (n ∷ ns) = λ i. same i || has_subject p s ns i
  where
    same : is_eq (key_cmp (keys.Data p n) (keys.Data p s)) ≡ is_eq (nat_cmp n s)
    same = parts_equal (keys.Data p n) (keys.Data p s) ∙ λ i. is_itself text_cmp text_order p i && is_eq (nat_cmp n s)

no_objects : (os : List Posting) → list_any (λ o. true) os ≡ false → os ≡ []
no_objects [] e = refl
no_objects (o ∷ os) e = absurd (both_ways true e refl)

pub all_subjects : (schema newer : List PredDef) (g : List Triple) → AllByRecursion IsOfSubject (altered_keys schema g newer)
all_subjects schema newer g = all_flat IsOfSubject (reread_keys schema g) newer each
  where
    each : (d : PredDef) → AllByRecursion IsOfSubject (reread_keys schema g d)
    each d = by (is_reread (definition_of schema d.name) d)
      where
        by : (v : Bool) → AllByRecursion IsOfSubject (cond v (map (keys.Data d.name) (holders g d.name)) [])
        by true = all_mapped IsOfSubject (keys.Data d.name) (holders g d.name) (λ s. tt)
        by false = tt

module _ (schema : List PredDef) (g : List Triple) (l : IsLawful schema g) where
  -- the subjects of a predicate that is declared otherwise
  read_for : (newer : List PredDef) (p : List ℕ) (d : PredDef) → definition_of newer p ≡ Some d → is_reread (definition_of schema p) d ≡ true → AreRead g (altered_keys schema g newer) p
  read_for [] p d e r s h = absurd (cc)
  read_for (x ∷ newer) p d e r s h = by (same_text x.name p) refl e (λ k. read_for newer p d k r s both.1)
    where
      both : (has key_cmp (reread_keys schema g x) (keys.Data p s) ≡ false) × (has key_cmp (altered_keys schema g newer) (keys.Data p s) ≡ false)
      both = or_parts (has key_cmp (reread_keys schema g x) (keys.Data p s)) (has key_cmp (altered_keys schema g newer) (keys.Data p s)) (sym (has_joined key_cmp key_order (reread_keys schema g x) (altered_keys schema g newer) (keys.Data p s)) ∙ h)

      here : x.name ≡ p → x ≡ d → has nat_cmp (holders g p) s ≡ false
      here name is =
          let again : is_reread (definition_of schema x.name) x ≡ true = (λ i. is_reread (definition_of schema (name i)) (is i)) ∙ r in
          let those : reread_keys schema g x ≡ map (keys.Data p) (holders g p) = (λ i. cond (again i) (map (keys.Data x.name) (holders g x.name)) []) ∙ λ i. map (keys.Data (name i)) (holders g (name i)) in
          sym (has_subject p s (holders g p)) ∙ (ap (λ (ks : List Key). has key_cmp ks (keys.Data p s)) (sym those) ∙ both.0)

      by : (v : Bool) → same_text x.name p ≡ v → cond v (Some x) (definition_of newer p) ≡ Some d → (definition_of newer p ≡ Some d → objects g p s ≡ []) → objects g p s ≡ []
      by true f k rest = let is : x ≡ d = cc in no_objects (objects g p s) (sym (where_are (λ o. true) g p s) ∙ here (same_text-equal x.name p f) is)
      by false f k rest = rest k

  -- a predicate that isn't declared has no object
  none_missing : (p : List ℕ) (s : ℕ) → definition_of schema p ≡ None → objects g p s ≡ []
  none_missing p s e = none_listed schema g p s e l.fit

  pub all_settled : (newer : List PredDef) → AreDistinct newer → (p : List ℕ) → AreAlike (definition_of schema p) (definition_of (with_definitions schema newer) p) ⊎ AreRead g (altered_keys schema g newer) p
  all_settled newer a p =
      subst (λ (o : Option PredDef). AreAlike (definition_of schema p) o ⊎ AreRead g (altered_keys schema g newer) p) (sym (definition_joined schema newer p a))
      (by (definition_of newer p) (definition_of schema p) refl refl)
    where
      with : (d e : PredDef) (v : Bool) → list_alike d e ≡ v → definition_of newer p ≡ Some e → definition_of schema p ≡ Some d → AreAlike (Some d) (Some e) ⊎ AreRead g (altered_keys schema g newer) p
      with d e true h x y = inl (alike_by d e h)
      with d e false h x y = inr (read_for newer p e x ((λ i. is_reread (y i) e) ∙ λ i. not (h i)))

      by : (o older : Option PredDef) → definition_of newer p ≡ o → definition_of schema p ≡ older → AreAlike older (option_or o older) ⊎ AreRead g (altered_keys schema g newer) p
      by None older x y = inl (record { listed = λ key os. refl; counted = refl })
      by (Some e) None x y = inr (λ s h. none_missing p s y)
      by (Some e) (Some d) x y = with d e (list_alike d e) refl x y

  -- a subject's list stays
  pub data_stays : (newer : List PredDef) → AreDistinct newer → (p : List ℕ) (s : ℕ) → listing schema g (keys.Data p s) ≡ listing (with_definitions schema newer) g (keys.Data p s)
  data_stays newer a p s =
      by (definition_of newer p) (definition_of schema p) refl
      ∙ ap (λ (o : Option PredDef). listing_by o g (keys.Data p s)) (sym (definition_joined schema newer p a))
    where
      by : (o older : Option PredDef) → definition_of schema p ≡ older → listing_by older g (keys.Data p s) ≡ listing_by (option_or o older) g (keys.Data p s)
      by None older y = refl
      by (Some e) None y = sym (none_missing p s y)
      by (Some e) (Some d) y = refl

  -- these are the parts of the filings
  abbrev pub AreOfFilings : List PredDef → List Part → Type 0
  AreOfFilings newer parts = parts ≡ altered_parts schema (with_definitions schema newer) (filed_under_schema schema g (altered_keys schema g newer)) (filed_under_schema (with_definitions schema newer) g (altered_keys schema g newer))

  pub alter_apart : (newer : List PredDef) (parts : List Part) → AreDistinct newer → AreOfFilings newer parts → AreApart parts
  alter_apart newer parts a is =
      subst AreApart (sym is)
      (both_apart schema (with_definitions schema newer) g (altered_keys schema g newer) (all_subjects schema newer g) l.ascend (all_settled newer a) (data_stays newer a))

  pub alter_gains : (newer : List PredDef) (whole parts : List Part) → AreDistinct newer → AreOfFilings newer whole → IsPermutation whole parts → Ascends part_cmp parts → ((key : Key) → ops_at parts key ≡ ops_at whole key) → AreGainsAndLosses schema g (with_definitions schema newer) g parts
  alter_gains newer whole parts a is moved up same =
      both_gains schema (with_definitions schema newer) g (altered_keys schema g newer) (all_subjects schema newer g) l.ascend (all_settled newer a) (data_stays newer a) parts
      (subst (λ (ps : List Part). IsPermutation ps parts) is moved) up (λ key. same key ∙ ap (λ (ps : List Part). ops_at ps key) is)
