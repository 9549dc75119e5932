-- What a sound offer's data parts put in fits the schema.
use Rattle.std.proofs.Common.{◌≡◌, ℕ, Bool, true, false, cond, List, [], ◌∷◌, ◌++◌, Option, Some, None, map, flat_map, subst, sym, ◌∙◌}
use Rattle.std.specs.Prelude.{filter}
use Rattle.std.specs.List.{AllByRecursion}
use Rattle.std.specs.Ordering.{is_eq}
use Rattle.dg_values.specs.Ascending.{has}
use Rattle.dg_values.specs.Order.{posting_cmp}
use Rattle.dg_sets.proofs.Sets.{is_itself, at}
use Rattle.dg_delta.specs.declared.op.Op.{Op}
use Rattle.dg_delta.specs.declared.op.Op.TheVariants as ops
use Rattle.dg_schema.specs.declared.definition.PredDef.{PredDef}
use Rattle.dg_schema.specs.Definitions.{definition_of}
use Rattle.dg_graph.specs.declared.change.Triple.{Triple}
use Rattle.dg_graph.specs.Graphs.{triple_cmp, fits, after_changes, IsLawful}
use Rattle.dg_graph.specs.Changes.{Fits, AllFit}
use Rattle.dg_graph.proofs.GraphLaws.{triple_order}
use Rattle.dg_graph.proofs.ObjectLaws.{objects_are}
use Rattle.dg_keys.specs.declared.conflict.ConflictKey.{ConflictKey}
use Rattle.dg_keys.specs.declared.key.Key.{Key}
use Rattle.dg_keys.specs.declared.key.Key.TheVariants as keys
use Rattle.dg_keys.specs.declared.record.Part.{Part}
use Rattle.dg_keys.specs.Keys.{key_cmp, ops_at}
use Rattle.dg_keys.specs.KeyOrder.{key_order}
use Rattle.dg_zero.specs.Listings.{listing, listing_by}
use Rattle.dg_zero.specs.Offers.{IsSound}
use Rattle.dg_zero.specs.Worlds.{change_of, changes_at, changes_of}
use Rattle.dg_zero.proofs.Operations.{Agrees, between_agrees}

all_front : {X : Type 0} (P : X → Type 0) (xs ys : List X) → AllByRecursion P (xs ++ ys) → AllByRecursion P xs
all_front P [] ys a = tt
all_front P (x ∷ xs) ys a = (a.0, all_front P xs ys a.1)

all_behind : {X : Type 0} (P : X → Type 0) (xs ys : List X) → AllByRecursion P (xs ++ ys) → AllByRecursion P ys
all_behind P [] ys a = a
all_behind P (x ∷ xs) ys a = all_behind P xs ys a.1

all_joined : {X : Type 0} (P : X → Type 0) (xs ys : List X) → AllByRecursion P xs → AllByRecursion P ys → AllByRecursion P (xs ++ ys)
all_joined P [] ys a b = b
all_joined P (x ∷ xs) ys a b = (a.0, all_joined P xs ys a.1 b)

-- ---- what holds of the operations at each key holds of each part's

module _ (P : Key → Op → Type 0) where
  own : (part : Part) (parts : List Part) → AllByRecursion (P part.key) (ops_at (part ∷ parts) part.key) → AllByRecursion (P part.key) part.ops
  own part parts a = by (is_eq (key_cmp part.key part.key)) (is_itself key_cmp key_order part.key) a
    where
      by : (v : Bool) → v ≡ true → AllByRecursion (P part.key) (flat_map (λ q. q.ops) (cond v (part ∷ filter (λ q. is_eq (key_cmp q.key part.key)) parts) (filter (λ q. is_eq (key_cmp q.key part.key)) parts))) → AllByRecursion (P part.key) part.ops
      by true e a = all_front (P part.key) part.ops (ops_at parts part.key) a
      by false e a = absurd (cc)

  later : (part : Part) (parts : List Part) (key : Key) → AllByRecursion (P key) (ops_at (part ∷ parts) key) → AllByRecursion (P key) (ops_at parts key)
  later part parts key a = by (is_eq (key_cmp part.key key)) a
    where
      by : (v : Bool) → AllByRecursion (P key) (flat_map (λ q. q.ops) (cond v (part ∷ filter (λ q. is_eq (key_cmp q.key key)) parts) (filter (λ q. is_eq (key_cmp q.key key)) parts))) → AllByRecursion (P key) (ops_at parts key)
      by true a = all_behind (P key) part.ops (ops_at parts key) a
      by false a = a

  by_parts : (parts : List Part) → ((key : Key) → AllByRecursion (P key) (ops_at parts key)) → AllByRecursion (λ part. AllByRecursion (P part.key) part.ops) parts
  by_parts [] f = tt
  by_parts (part ∷ parts) f = (own part parts (f part.key), by_parts parts (λ key. later part parts key (f key)))

-- ---- what is put in is in the new graph, and fits

op_fits : (schema : List PredDef) (goal : List Triple) (p : List ℕ) (s : ℕ) (op : Op) → IsLawful schema goal → Agrees (listing schema goal (keys.Data p s)) op → Fits schema (change_of p s op)
op_fits schema goal p s (ops.Del o) l a = tt
op_fits schema goal p s (ops.Set o) l a = by (definition_of schema p) a
  where
    by : (d : Option PredDef) → has posting_cmp (listing_by d goal (keys.Data p s)) o ≡ true → fits schema (record { s = s; p = p; o = o }) ≡ true
    by None e = absurd (cc)
    by (Some def) e = at triple_cmp triple_order (λ t. fits schema t ≡ true) goal (record { s = s; p = p; o = o }) l.fit (sym (objects_are goal p s o) ∙ e)

ops_fit : (schema : List PredDef) (goal : List Triple) (p : List ℕ) (s : ℕ) (os : List Op) → IsLawful schema goal → AllByRecursion (Agrees (listing schema goal (keys.Data p s))) os → AllFit schema (map (change_of p s) os)
ops_fit schema goal p s [] l a = tt
ops_fit schema goal p s (op ∷ os) l a = (op_fits schema goal p s op l a.0, ops_fit schema goal p s os l a.1)

key_fits : (schema : List PredDef) (goal : List Triple) (key : Key) (os : List Op) → IsLawful schema goal → AllByRecursion (Agrees (listing schema goal key)) os → AllFit schema (changes_at key os)
key_fits schema goal (keys.Data p s) os l a = ops_fit schema goal p s os l a
key_fits schema goal (keys.Index p t) os l a = tt
key_fits schema goal (keys.Reverse p t) os l a = tt
key_fits schema goal (keys.Count p t) os l a = tt
key_fits schema goal (keys.RCount p t) os l a = tt

parts_fit : (schema : List PredDef) (goal : List Triple) (parts : List Part) → IsLawful schema goal → AllByRecursion (λ part. AllByRecursion (Agrees (listing schema goal part.key)) part.ops) parts → AllFit schema (changes_of parts)
parts_fit schema goal [] l a = tt
parts_fit schema goal (part ∷ parts) l a = all_joined (Fits schema) (changes_at part.key part.ops) (changes_of parts) (key_fits schema goal part.key part.ops l a.0) (parts_fit schema goal parts l a.1)

pub sound_fits : (schema : List PredDef) (graph : List Triple) (preds : List (List ℕ)) (ks : List ConflictKey) (parts : List Part) → IsSound schema graph preds ks parts → AllFit schema (changes_of parts)
sound_fits schema graph preds ks parts s =
    let goal = after_changes schema graph (changes_of parts) in
    parts_fit schema goal parts s.lawful (by_parts (λ key. Agrees (listing schema goal key)) parts (λ key. subst (λ (os : List Op). AllByRecursion (Agrees (listing schema goal key)) os) (sym (s.parts_are.exact key)) (between_agrees (listing schema graph key) (listing schema goal key))))
