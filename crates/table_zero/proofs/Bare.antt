-- Alters where there is no triple.
use Rattle.std.proofs.Common.{◌≡◌, ℕ, List, [], ◌∷◌, ◌++◌, Option, Some, None, refl, ap, subst, sym, ◌∙◌, arith}
use Rattle.std.proofs.lemmas.Grind.{common_steps}
use Rattle.std.specs.List.{AllByRecursion}
use Rattle.dg_graph.specs.declared.change.Triple.{Triple}
use Rattle.dg_graph.specs.declared.plain.Plain.{Plain}
use Rattle.dg_keys.specs.declared.key.Key.{Key}
use Rattle.dg_keys.specs.declared.key.Key.TheVariants.{Data, Index, Reverse, Count, RCount}
use Rattle.dg_keys.specs.declared.record.Part.{Part}
use Rattle.dg_keys.specs.Keys.{pred_of}
use Rattle.dg_schema.specs.declared.definition.PredDef.{PredDef}
use Rattle.dg_schema.specs.Definitions.{definition_of, with_definitions}
use Rattle.dg_zero.specs.declared.entry.Entry.{Entry}
use Rattle.dg_zero.specs.Legal.{IsLegal, KeepsKind}
use Rattle.dg_zero.specs.Listings.{listing_by, AreGainsAndLosses}
use Rattle.dg_zero.specs.States.{Zero, and_then, alter_of, AreAlterParts, KeepKinds}
use Rattle.dg_zero.specs.Worlds.{World, world, schema}
use Rattle.dg_zero.proofs.LawsOfHistories.{world_push}
use Rattle.table_zero.specs.Mirrors.{IsMirror, IsBare}

-- nothing is listed where there is no triple
no_triples : (def : Option PredDef) (key : Key) → listing_by def [] key ≡ []
no_triples None key = refl
no_triples (Some def) (Data p s) = refl
no_triples (Some def) (Index p t) = grind (arith, common_steps)
no_triples (Some def) (Reverse p o) = grind (arith, common_steps)
no_triples (Some def) (Count p n) = grind (arith, common_steps)
no_triples (Some def) (RCount p n) = grind (arith, common_steps)

-- so an alter changes no list there
pub bare_parts : (z : Zero) (newer : List PredDef) → IsBare z → AreAlterParts z.history newer []
bare_parts z newer b =
    let older = schema z.history in
    subst (λ (g : List Triple). AreGainsAndLosses older g (with_definitions older newer) g []) (sym b.none) (record {
      parts_are = record { ascend = tt; each = tt };
      exact = λ key. rw (no_triples (definition_of older (pred_of key)) key, no_triples (definition_of (with_definitions older newer) (pred_of key)) key) refl;
    })

-- and each definition may be replaced
any_kind : (def : PredDef) (old : Option PredDef) → KeepsKind [] def old
any_kind def None = tt
any_kind def (Some old) = λ has. absurd (cc)

any_kinds : (older newer : List PredDef) → AllByRecursion (λ def. KeepsKind [] def (definition_of older def.name)) newer
any_kinds older [] = tt
any_kinds older (def ∷ newer) = (any_kind def (definition_of older def.name), any_kinds older newer)

pub bare_kinds : (z : Zero) (newer : List PredDef) → IsBare z → KeepKinds z.history newer
bare_kinds z newer b =
    let older = schema z.history in
    subst (λ (g : List Triple). AllByRecursion (λ def. KeepsKind g def (definition_of older def.name)) newer) (sym b.none) (any_kinds older newer)

-- nothing has happened
pub none_bare : (z : Zero) (groups : ℕ) → z ≡ record { groups = groups; history = [] } → IsBare z
none_bare z groups is =
    let start : IsBare (record { groups = groups; history = [] }) = record { legal = tt; none = refl } in
    subst IsBare (sym is) start

-- definitions are added or replaced
pub altered_bare : (z w : Zero) (author : ℕ) (newer : List PredDef) (parts : List Part) → IsBare z → w ≡ and_then z author (alter_of z newer parts) → IsLegal w.groups w.history → IsBare w
altered_bare z w author newer parts b is legal =
    let e : Entry = record { author = author; event = alter_of z newer parts } in
    let grown : w.history ≡ z.history ++ e ∷ [] = ap (λ (y : Zero). y.history) is in
    record {
      legal = legal;
      none = ap (λ (h : List Entry). (world h).graph) grown ∙ (ap (λ (u : World). u.graph) (world_push z.history e) ∙ b.none);
    }

-- the present schema and no triple are a mirror
pub bare_mirror : (z : Zero) (at : Plain) → IsBare z → at.schema ≡ schema z.history → at.graph ≡ [] → IsMirror z at
bare_mirror z at b schema_is graph_is =
    let declared = sym schema_is in
    let none = b.none ∙ sym graph_is in
    record {
      legal = b.legal;
      world_is = λ i. record { schema = declared i; graph = none i };
    }
