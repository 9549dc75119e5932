-- What an alter keeps, and why it is refused.
use Rattle.std.proofs.Common.{◌≡◌, fold, ℕ, ◌+◌, ◌<◌, ◌≤◌, ◌^◌, true, false, List, [], ◌∷◌, ◌++◌, Option, Some, None, refl, ap, subst, sym, ◌∙◌, arith}
use Rattle.std.specs.Prelude.{filter, option_map, ◌==◌, map}
use Rattle.std.specs.Option.{IfSome}
use Rattle.std.specs.List.{AllByRecursion}
use Rattle.std.proofs.lemmas.Grind.{common_steps}
use Rattle.dg_schema.specs.declared.definition.PredDef.{PredDef}
use Rattle.dg_schema.specs.Definitions.{with_definitions}
use Rattle.dg_keys.specs.declared.conflict.ConflictKey.{ConflictKey}
use Rattle.dg_keys.specs.declared.record.Part.{Part}
use Rattle.dg_keys.specs.declared.record.Tablet.{Tablet}
use Rattle.dg_keys.specs.Tablets.{tablet_cmp}
use Rattle.dg_values.specs.Ascending.{with_one}
use Rattle.dg_oracle.specs.Commits as oracle
use Rattle.dg_zero.specs.declared.alter.Altered.{Altered}
use Rattle.dg_zero.specs.declared.entry.Entry.{Entry}
use Rattle.dg_zero.specs.declared.entry.Event.{Event}
use Rattle.dg_zero.specs.declared.entry.Event.TheVariants.{Alter}
use Rattle.dg_zero.specs.declared.tablets.Place.{Place}
use Rattle.dg_zero.specs.Altering.{IsAltered}
use Rattle.dg_zero.specs.Counters.{active, starts_of}
use Rattle.dg_zero.specs.Places.{tablets, tally, is_held, fresh, fresh_place}
use Rattle.dg_zero.specs.States.{Zero, IsKept, and_entry, owners_of, first_held, IsLeastStart, KeepKinds, AreAlterParts}
use Rattle.dg_zero.specs.Verdicts.{first}
use Rattle.dg_zero.proofs.NewTablets.{owners_fresh}
use Rattle.dg_zero.proofs.Kept.{alter_keeps, none_held}

-- the first start is the least
all_above : (low : ℕ) (xs : List ℕ) → oracle.Ascends low xs → AllByRecursion (λ x. low ≤ x) xs
all_above low [] a = tt
all_above low (x ∷ xs) a = (omega (arith, a.0), all_above low xs (lower low x xs (omega (arith, a.0)) a.1))
  where
    lower : (l m : ℕ) (ys : List ℕ) → l ≤ m → oracle.Ascends m ys → oracle.Ascends l ys
    lower l m [] le a = tt
    lower l m (y ∷ ys) le a = (omega (arith, le, a.0), a.1)

pub least_first : (h : List Entry) (line start : ℕ) (xs : List ℕ) → xs ≡ starts_of (active h) → oracle.Ascends line xs → Some start ≡ oracle.first_start xs → IsLeastStart h start
least_first h line start [] same a e = absurd (cc)
least_first h line start (x ∷ xs) same a e =
    let is : start ≡ x = cc in
    let it : (x == start) ≡ true = grind (arith, common_steps) in
    record {
      found = subst (λ (ys : List ℕ). oracle.is_active ys start ≡ true) same (rw it refl);
      least = subst (λ (ys : List ℕ). AllByRecursion (λ s. start ≤ s) ys) same (omega (arith, is), subst (λ (k : ℕ). AllByRecursion (λ s. k ≤ s) xs) (sym is) (all_above x xs a.1));
    }

pub no_first : (xs : List ℕ) → None ≡ oracle.first_start xs → xs ≡ []
no_first [] e = refl
no_first (x ∷ xs) e = absurd (cc)

-- a first start that was found is the least
pub found_first : (h : List Entry) (line : ℕ) (o : Option ℕ) (xs : List ℕ) → xs ≡ starts_of (active h) → oracle.Ascends line xs → o ≡ oracle.first_start xs → IfSome o (IsLeastStart h)
found_first h line None xs same a e = tt
found_first h line (Some start) xs same a e = least_first h line start xs same a e

-- no tablet is held
pub none_first_held : (places : List Place) (newer : List PredDef) → AllByRecursion (λ def. is_held places def.name ≡ false) newer → first_held places newer ≡ None
none_first_held places newer a = ap (λ (ds : List PredDef). option_map (λ (d : PredDef). d.name) (first ds)) (none newer a)
  where
    none : (ds : List PredDef) → AllByRecursion (λ def. is_held places def.name ≡ false) ds → filter (λ (d : PredDef). is_held places d.name) ds ≡ []
    none [] a = refl
    none (d ∷ ds) a = rw a.0 (none ds a.1)

module _ {cs : List ℕ} (n : ℕ) (o : oracle.OracleState ConflictKey) (uid : ℕ) (d : List PredDef) (ps : List Place) (w : List Tablet) (h : List Entry) (now : Zero) (groups : n ≡ now.groups) (view : h ≡ now.history) (author : ℕ) (k : IsKept n o uid d ps w h cs) where
  pub held_nowhere : (newer : List PredDef) → first_held (tablets now.history) newer ≡ None
  held_nowhere newer = subst (λ (x : List Entry). first_held (tablets x) newer ≡ None) view (none_first_held (tablets h) newer (none_held n o uid d ps w h author k newer))

  owners_now : w ≡ owners_of ps
  owners_now = k.owners_are ∙ ap owners_of (sym k.tablets_are)

  -- what was made before anything changed is where the history leads then
  pub altered_keeps : (newer : List PredDef) (parts : List Part) (a : Altered) (start ts : ℕ) (o2 : oracle.OracleState ConflictKey) (d2 : List PredDef) (ps2 : List Place) (w2 : List Tablet) (past : List Entry) → IsAltered now.groups (tablets now.history) newer a → author ≡ 0 → active now.history ≡ [] → o.next + 1 < 2 ^ 62 → KeepKinds now.history newer → AreAlterParts now.history newer parts → start ≡ o.next → ts ≡ o.next + 1 → o2 ≡ oracle.two_drawn o
      → d2 ≡ with_definitions d newer → ps2 ≡ ps ++ a.places.items → w2 ≡ fold (with_one tablet_cmp) w a.owners.items → past ≡ and_entry h author (Alter start a.newer (record { ts = ts; fresh = a.fresh; parts = parts })) → IsKept n o2 uid d2 ps2 w2 past a.counts.items
  altered_keeps newer parts a start ts o2 d2 ps2 w2 past is own idle lt kinds are start_is ts_is drawn schema_is added put past_is =
      let back : now.groups ≡ n = sym groups in
      let places : tablets now.history ≡ ps = sym (k.tablets_are ∙ ap tablets view) in
      let made : fresh now.groups (tablets now.history) newer ≡ fresh n ps newer = λ i. fresh (back i) (places i) newer in
      let fresh_is : a.fresh ≡ fresh n ps newer = is.fresh_are ∙ made in
      let tablets_is : ps2 ≡ ps ++ map fresh_place (fresh n ps newer) = added ∙ ap (λ (ts : List Place). ps ++ ts) (is.places_are ∙ ap (map fresh_place) made) in
      let theirs : a.owners.items ≡ fresh n ps newer = is.owners_are ∙ made in
      let owners_is : w2 ≡ owners_of (ps ++ map fresh_place (fresh n ps newer)) = put ∙ ((λ i. fold (with_one tablet_cmp) (owners_now i) (theirs i)) ∙ owners_fresh ps (fresh n ps newer)) in
      let counts_is : a.counts.items ≡ tally n (ps ++ map fresh_place (fresh n ps newer)) = is.counts_are ∙ (λ i. tally (back i) (places i ++ map fresh_place (made i))) in
      let event_is : Alter start a.newer (record { ts = ts; fresh = a.fresh; parts = parts }) ≡ Alter o.next newer (record { ts = o.next + 1; fresh = fresh n ps newer; parts = parts }) = λ i. Alter (start_is i) (is.newer_are i) (record { ts = ts_is i; fresh = fresh_is i; parts = parts }) in
      let none : o.active ≡ [] = k.active_are ∙ (ap (λ (x : List Entry). starts_of (active x)) view ∙ ap starts_of idle) in
      let base = alter_keeps n o uid d ps w h author k newer parts own none lt is.distinct (subst (λ (x : List Entry). KeepKinds x newer) (sym view) kinds) (subst (λ (x : List Entry). AreAlterParts x newer parts) (sym view) are) in
      let past_at : past ≡ and_entry h author (Alter o.next newer (record { ts = o.next + 1; fresh = fresh n ps newer; parts = parts })) = past_is ∙ ap (λ (e : Event). and_entry h author e) event_is in
      rw (drawn, schema_is, tablets_is, owners_is, counts_is, past_at) base
