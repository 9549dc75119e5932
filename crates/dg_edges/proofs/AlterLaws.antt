-- What lists gain and lose by new definitions, from the filings of the subjects that are read for them.
use Rattle.std.proofs.Common.{◌≡◌, ℕ, zero, suc, nat_le, Bool, true, false, cond, List, [], ◌∷◌, Option, Some, None, length, refl, sym, ◌∙◌, arith}
use Rattle.std.specs.Prelude.{◌==◌, ◌&&◌, ◌||◌}
use Rattle.std.specs.List.{list_any}
use Rattle.std.proofs.lemmas.Bool.{eqb-true}
use Rattle.std.proofs.lemmas.List.Folds.{list_any-append}
use Rattle.std.specs.Ordering.{is_eq, nat_cmp}
use Rattle.dg_values.specs.Ascending.{has}
use Rattle.dg_values.specs.Order.{text_cmp}
use Rattle.dg_values.specs.declared.value.Posting.{Posting}
use Rattle.dg_values.specs.declared.value.Posting.TheVariants.{Uid}
use Rattle.dg_sets.proofs.MadeOrders.{nat_order, text_order}
use Rattle.dg_sets.proofs.Sets.{is_one, eq_turn, all_with}
use Rattle.dg_schema.specs.declared.definition.PredDef.{PredDef}
use Rattle.dg_schema.specs.Definitions.{definition_of}
use Rattle.dg_graph.specs.declared.change.Triple.{Triple}
use Rattle.dg_graph.specs.Graphs.{objects}
use Rattle.dg_graph.specs.Lookups.{has_tokenizer}
use Rattle.dg_keys.specs.declared.key.Key.{Key}
use Rattle.dg_keys.specs.declared.key.Key.TheVariants as keys
use Rattle.dg_keys.specs.Keys.{key_cmp, pred_of, kind_rank, field_cmp}
use Rattle.dg_edges.specs.Altering.{filed_long, numbers_from}
use Rattle.dg_edges.specs.Filing.{nodes_under, filed_subjects, is_counted, is_counted_by}
use Rattle.dg_edges.specs.declared.filing.Filed.{Filed}
use Rattle.dg_edges.proofs.FiledParts.{no_nodes}
use Rattle.dg_edges.proofs.FilingLaws.{is_at, parts_equal, IsOwn, apart_by, none_any, listed_under}
use Rattle.dg_edges.proofs.NumberParts.{own_number, own_filed, other_kind}

-- ---- subjects without objects are listed nowhere

pub off : (b : Bool) → (b && false) ≡ false
off true = refl
off false = refl

pub no_zero : (n : ℕ) → (nat_le 1 n && (0 == n)) ≡ false
no_zero zero = refl
no_zero (suc n) = by (0 == suc n) refl
  where
    by : (v : Bool) → (0 == suc n) ≡ v → (nat_le 1 (suc n) && v) ≡ false
    by true e = absurd (omega (arith, eqb-true 0 (suc n) e))
    by false e = off (nat_le 1 (suc n))

pub listed_none : (d : Option PredDef) (key : Key) → listed_under d key [] ≡ false
listed_none None key = refl
listed_none (Some def) (keys.Data p s) = refl
listed_none (Some def) (keys.Index p t) = off (has_tokenizer def t.tokenizer)
listed_none (Some def) (keys.Reverse p o) = off def.reverse
listed_none (Some def) (keys.Count p n) = (λ i. def.count && no_zero n i) ∙ off def.count
listed_none (Some def) (keys.RCount p n) = refl

-- keys of subjects and of numbers of subjects aren't filed by objects
pub never_data : (d : Option PredDef) (p : List ℕ) (s : ℕ) (os : List Posting) → listed_under d (keys.Data p s) os ≡ false
never_data None p s os = refl
never_data (Some def) p s os = refl

pub never_number : (d : Option PredDef) (p : List ℕ) (n : ℕ) (os : List Posting) → listed_under d (keys.RCount p n) os ≡ false
never_number None p n os = refl
never_number (Some def) p n os = refl

-- ---- what a predicate's definitions before and after have in common, or its subjects are read

-- both list the same objects under the same keys
pub record AreAlike (d e : Option PredDef) : Type 0 where
  pub listed : (key : Key) (os : List Posting) → listed_under d key os ≡ listed_under e key os
  pub counted : is_counted_by d ≡ is_counted_by e

-- each subject with an object has its key among these
abbrev pub AreRead : List Triple → List Key → List ℕ → Type 0
AreRead g ks p = (s : ℕ) → has key_cmp ks (keys.Data p s) ≡ false → objects g p s ≡ []

-- ---- nodes under the numbers of their subjects

module _ (schema : List PredDef) (g : List Triple) (filed : List Filed) where
  -- of the node of one key
  one_long : (q : List ℕ) (n u : ℕ) (l : Key) → list_any (is_at (keys.RCount q n) (Uid u)) (filed_long schema l (nodes_under filed l)) ≡ (is_eq (key_cmp l (keys.Reverse q u)) && (is_counted_by (definition_of schema q) && (nat_le 1 n && (length (nodes_under filed (keys.Reverse q u)) == n))))
  one_long q n u l = by l
    where
      goal : Bool
      goal = is_counted_by (definition_of schema q) && (nat_le 1 n && (length (nodes_under filed (keys.Reverse q u)) == n))

      other : (m : Key) → is_eq (nat_cmp (kind_rank m) 3) ≡ false → false ≡ (is_eq (key_cmp m (keys.Reverse q u)) && goal)
      other m e = sym ((λ i. parts_equal m (keys.Reverse q u) i && goal) ∙ ((λ i. (is_eq (text_cmp (pred_of m) q) && (e i && is_eq (field_cmp m (keys.Reverse q u)))) && goal) ∙ λ i. off (is_eq (text_cmp (pred_of m) q)) i && goal))

      by : (m : Key) → list_any (is_at (keys.RCount q n) (Uid u)) (filed_long schema m (nodes_under filed m)) ≡ (is_eq (key_cmp m (keys.Reverse q u)) && goal)
      by (keys.Data p s) = other (keys.Data p s) refl
      by (keys.Index p t) = other (keys.Index p t) refl
      by (keys.Count p m) = other (keys.Count p m) refl
      by (keys.RCount p m) = other (keys.RCount p m) refl
      by (keys.Reverse p o) = node (is_eq (text_cmp q p) && is_eq (nat_cmp o u)) refl
        where
          long : ℕ
          long = length (nodes_under filed (keys.Reverse p o))

          its : is_eq (key_cmp (keys.Reverse p o) (keys.Reverse q u)) ≡ (is_eq (text_cmp q p) && is_eq (nat_cmp o u))
          its = parts_equal (keys.Reverse p o) (keys.Reverse q u) ∙ λ i. eq_turn text_cmp text_order p q i && is_eq (nat_cmp o u)

          parts : (a b : Bool) → (a && b) ≡ true → (a ≡ true) × (b ≡ true)
          parts true true e = (refl, refl)
          parts true false e = absurd (cc)
          parts false b e = absurd (cc)

          node : (v : Bool) → (is_eq (text_cmp q p) && is_eq (nat_cmp o u)) ≡ v → list_any (is_at (keys.RCount q n) (Uid u)) (cond (is_counted schema p) (filed_subjects p o long) []) ≡ (is_eq (key_cmp (keys.Reverse p o) (keys.Reverse q u)) && goal)
          node true e =
              counted (is_counted schema p)
              ∙ ((λ i. is_counted_by (definition_of schema (pred i)) && (nat_le 1 n && (length (nodes_under filed (keys.Reverse (pred i) (point i))) == n)))
              ∙ λ i. sym (its ∙ e) i && goal)
            where
              both : (is_eq (text_cmp q p) ≡ true) × (is_eq (nat_cmp o u) ≡ true)
              both = parts (is_eq (text_cmp q p)) (is_eq (nat_cmp o u)) e

              pred : p ≡ q
              pred = sym (is_one text_cmp text_order q p both.0)

              point : o ≡ u
              point = is_one nat_cmp nat_order o u both.1

              counted : (w : Bool) → list_any (is_at (keys.RCount q n) (Uid u)) (cond w (filed_subjects p o long) []) ≡ (w && (nat_le 1 n && (long == n)))
              counted true = own_number schema g q p n u o long both.0 both.1
              counted false = refl
          node false e = none (is_counted schema p) ∙ λ i. sym (its ∙ e) i && goal
            where
              none : (w : Bool) → list_any (is_at (keys.RCount q n) (Uid u)) (cond w (filed_subjects p o long) []) ≡ false
              none true = none_any (is_at (keys.RCount q n) (Uid u)) (filed_subjects p o long) (all_with (IsOwn p o) (λ f. is_at (keys.RCount q n) (Uid u) f ≡ false) (filed_subjects p o long) (λ f own. apart_by (keys.RCount q n) u p o f e own) (own_filed schema g p o long))
              none false = refl

  pub has_long : (q : List ℕ) (n u : ℕ) (all : List Key) → list_any (is_at (keys.RCount q n) (Uid u)) (numbers_from schema all filed) ≡ (has key_cmp all (keys.Reverse q u) && (is_counted_by (definition_of schema q) && (nat_le 1 n && (length (nodes_under filed (keys.Reverse q u)) == n))))
  has_long q n u [] = refl
  has_long q n u (l ∷ all) =
      list_any-append (is_at (keys.RCount q n) (Uid u)) (filed_long schema l (nodes_under filed l)) (numbers_from schema all filed)
      ∙ ((λ i. one_long q n u l i || has_long q n u all i)
      ∙ gathered (is_eq (key_cmp l (keys.Reverse q u))) (has key_cmp all (keys.Reverse q u)) _)
    where
      gathered : (a b h : Bool) → ((a && h) || (b && h)) ≡ ((a || b) && h)
      gathered true true true = refl
      gathered true true false = refl
      gathered true false true = refl
      gathered true false false = refl
      gathered false b h = refl

  -- they are under no key of another kind
  long_by : (key : Key) (l : Key) (subjects : List Posting) (o : Posting) → is_eq (nat_cmp (kind_rank key) 5) ≡ false → list_any (is_at key o) (filed_long schema l subjects) ≡ false
  long_by key (keys.Data p s) subjects o e = refl
  long_by key (keys.Index p s) subjects o e = refl
  long_by key (keys.Count p s) subjects o e = refl
  long_by key (keys.RCount p s) subjects o e = refl
  long_by key (keys.Reverse p m) subjects o e = by (is_counted schema p) (nat_le 1 (length subjects))
    where
      by : (v w : Bool) → list_any (is_at key o) (cond v (cond w ((record { key = keys.RCount p (length subjects); node = m }) ∷ []) []) []) ≡ false
      by true true = λ i. other_kind schema g key (record { key = keys.RCount p (length subjects); node = m }) e refl o i || false
      by true false = refl
      by false w = refl

  pub none_long : (key : Key) (all : List Key) → is_eq (nat_cmp (kind_rank key) 5) ≡ false → nodes_under (numbers_from schema all filed) key ≡ []
  none_long key all e = no_nodes key (numbers_from schema all filed) (each all)
    where
      each : (ls : List Key) (o : Posting) → list_any (is_at key o) (numbers_from schema ls filed) ≡ false
      each [] o = refl
      each (l ∷ ls) o =
          list_any-append (is_at key o) (filed_long schema l (nodes_under filed l)) (numbers_from schema ls filed)
          ∙ λ i. long_by key l (nodes_under filed l) o e i || each ls o i
