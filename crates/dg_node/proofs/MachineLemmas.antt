-- What more alters and commits leave of the machine's schemas, graphs and keys.
use Rattle.std.proofs.Common.{◌≡◌, ℕ, ◌<◌, ◌≤◌, true, false, cond, List, [], ◌∷◌, ◌++◌, refl, ap, ◌∙◌, arith}
use Rattle.std.specs.Prelude.{nat_le, fold, map}
use Rattle.std.specs.List.{AllByRecursion}
use Rattle.std.proofs.lemmas.List.Sums.{fold-append}
use Rattle.std.proofs.lemmas.Grind.{common_steps}
use Rattle.dg_schema.specs.declared.definition.PredDef.{PredDef}
use Rattle.dg_schema.specs.Definitions.{with_definitions}
use Rattle.dg_graph.specs.declared.change.Triple.{Triple}
use Rattle.dg_graph.specs.Graphs.{after_changes}
use Rattle.dg_zero.specs.Listings.{conflict_keys}
use Rattle.dg_zero.specs.declared.entry.Entry.{Entry}
use Rattle.dg_zero.specs.declared.entry.Event.{Event}
use Rattle.dg_zero.specs.declared.entry.Event.TheVariants.{Alter, Commit as Committed}
use Rattle.dg_zero.specs.Worlds.{World, world_at, world_after, world_upto, empty_world, stamp}
use Rattle.dg_node.specs.Schemas.{Alter as Altered, after_alter, schema_at}
use Rattle.dg_node.specs.Graphs.{Commit, after_commit, committed_at}
use Rattle.dg_node.specs.Machine.{Machine}
use Rattle.dg_node.specs.Transactions.{keyed}
use Rattle.dg_node.specs.State.{alter_of, alters, IsDrawn}

-- ---- the schemas are those of the history

schema_step : (at : ℕ) (w : World) (event : Event) (more : List Altered) → fold (after_alter at) w.schema (alter_of event ++ more) ≡ fold (after_alter at) (cond (nat_le (stamp event) at) (world_after w event) w).schema more
schema_step at w (Alter start newer written) more =
    elim (nat_le written.ts at) as (λ b. fold (after_alter at) (cond b (with_definitions w.schema newer) w.schema) more ≡ fold (after_alter at) (cond b (world_after w (Alter start newer written)) w).schema more) [ true ↦ refl | false ↦ refl ]
schema_step at w (Committed start preds keys asked written) more =
    elim (nat_le written.ts at) as (λ b. fold (after_alter at) w.schema more ≡ fold (after_alter at) (cond b (world_after w (Committed start preds keys asked written)) w).schema more) [ true ↦ refl | false ↦ refl ]
schema_step at w event more =
    elim (nat_le 0 at) as (λ b. fold (after_alter at) w.schema more ≡ fold (after_alter at) (cond b w w).schema more) [ true ↦ refl | false ↦ refl ]

schemas_from : (h : List Entry) (at : ℕ) (w : World) → fold (after_alter at) w.schema (alters h) ≡ (fold (world_upto at) w h).schema
schemas_from [] at w = refl
schemas_from (e ∷ h) at w = schema_step at w e.event (alters h) ∙ schemas_from h at (world_upto at w e)

pub schemas_are : (h : List Entry) (at : ℕ) → schema_at (alters h) at ≡ (world_at h at).schema
schemas_are h at = schemas_from h at empty_world

-- ---- one more alter

pub schema_before : (alts : List Altered) (a : Altered) (at : ℕ) → at < a.ts → schema_at (alts ++ a ∷ []) at ≡ schema_at alts at
schema_before alts a at lt =
    let late : nat_le a.ts at ≡ false = grind (arith, common_steps) in
    fold-append (after_alter at) [] alts (a ∷ []) ∙ rw late refl

graph_from : (alts : List Altered) (a : Altered) (next at : ℕ) (g : List Triple) (cs : List Commit) → next ≤ a.ts → AllByRecursion (IsDrawn next) cs → fold (after_commit (alts ++ a ∷ []) at) g cs ≡ fold (after_commit alts at) g cs
graph_from alts a next at g [] le d = refl
graph_from alts a next at g (c ∷ cs) le d =
    let schema : schema_at (alts ++ a ∷ []) c.ts ≡ schema_at alts c.ts = schema_before alts a c.ts (omega (arith, le, d.0.1)) in
    let one : after_commit (alts ++ a ∷ []) at g c ≡ after_commit alts at g c = ap (λ (s : List PredDef). cond (nat_le c.ts at) (after_changes s g c.changes) g) schema in
    ap (λ (x : List Triple). fold (after_commit (alts ++ a ∷ []) at) x cs) one ∙ graph_from alts a next at (after_commit alts at g c) cs le d.1

pub graph_beside : (alts : List Altered) (a : Altered) (next at : ℕ) (cs : List Commit) → next ≤ a.ts → AllByRecursion (IsDrawn next) cs → committed_at (alts ++ a ∷ []) cs at ≡ committed_at alts cs at
graph_beside alts a next at cs le d = graph_from alts a next at [] cs le d

-- ---- one more commit

pub graph_push : (alts : List Altered) (cs : List Commit) (c : Commit) (at : ℕ) → committed_at alts (cs ++ c ∷ []) at ≡ after_commit alts at (committed_at alts cs at) c
graph_push alts cs c at = fold-append (after_commit alts at) [] cs (c ∷ [])

pub graph_before : (alts : List Altered) (cs : List Commit) (c : Commit) (at : ℕ) → at < c.ts → committed_at alts (cs ++ c ∷ []) at ≡ committed_at alts cs at
graph_before alts cs c at lt =
    let late : nat_le c.ts at ≡ false = grind (arith, common_steps) in
    graph_push alts cs c at ∙ rw late refl

pub graph_there : (alts : List Altered) (cs : List Commit) (c : Commit) (at : ℕ) → c.ts ≤ at → committed_at alts (cs ++ c ∷ []) at ≡ after_changes (schema_at alts c.ts) (committed_at alts cs at) c.changes
graph_there alts cs c at le =
    let there : nat_le c.ts at ≡ true = grind (arith, common_steps) in
    graph_push alts cs c at ∙ rw there refl

-- ---- keys

-- the schema and the graph at a commit's start are the same in two machines
pub record IsSeenAlike (m n : Machine) (c : Commit) : Type 0 where
  pub schema_is : schema_at n.alters c.start ≡ schema_at m.alters c.start
  pub graph_is : committed_at n.alters n.commits c.start ≡ committed_at m.alters m.commits c.start

pub keyed_alike : (m n : Machine) (c : Commit) → IsSeenAlike m n c → keyed n c ≡ keyed m c
keyed_alike m n c s = λ i. record { ts = c.ts; keys = conflict_keys (s.schema_is i) (s.graph_is i) c.changes }

pub all_keyed_alike : (m n : Machine) (cs : List Commit) → AllByRecursion (IsSeenAlike m n) cs → map (keyed n) cs ≡ map (keyed m) cs
all_keyed_alike m n [] a = refl
all_keyed_alike m n (c ∷ cs) a = λ i. keyed_alike m n c a.0 i ∷ all_keyed_alike m n cs a.1 i

-- each of these is so
pub all_from : {X : Type 0} (P Q : X → Type 0) → ((x : X) → P x → Q x) → (xs : List X) → AllByRecursion P xs → AllByRecursion Q xs
all_from P Q f [] a = tt
all_from P Q f (x ∷ xs) a = (f x a.0, all_from P Q f xs a.1)

pub drawn_later : (a b : ℕ) (cs : List Commit) → a ≤ b → AllByRecursion (IsDrawn a) cs → AllByRecursion (IsDrawn b) cs
drawn_later a b cs le d = all_from (IsDrawn a) (IsDrawn b) (λ c p. (p.0, omega (arith, le, p.1))) cs d
