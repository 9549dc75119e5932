-- Along every order of blocks variables have values of their kinds, and what a plan keeps means the text.
use Rattle.std.proofs.Common.{◌≡◌, ℕ, zero, suc, false, List, [], ◌∷◌, length, replicate, refl, ap, ◌∙◌, subst}
use Rattle.std.proofs.lemmas.List.{length-map}
use Rattle.std.specs.Prelude.{⊤, Option, Some, None, flat_map, fold, slice_get}
use Rattle.std.specs.List.{AllByRecursion}
use Rattle.std.specs.Ordering.{nat_cmp}
use Rattle.dg_values.specs.Ascending.{ascending}
use Rattle.dg_schema.specs.declared.definition.PredDef.{PredDef}
use Rattle.dg_graph.specs.declared.change.Triple.{Triple}
use Rattle.dg_graph.specs.Graphs.{IsLawful}
use Rattle.dg_parse.specs.declared.query.QBlock.{QBlock}
use Rattle.dg_parse.specs.declared.query.Query.{Query}
use Rattle.dg_check.specs.declared.parts.Parts.{Parts}
use Rattle.dg_check.specs.declared.plan.Plan.{Plan}
use Rattle.dg_check.specs.declared.vars.Variable.{Variable}
use Rattle.dg_check.specs.Faults.{first_again}
use Rattle.dg_check.specs.Outcomes.{IsPlanOf}
use Rattle.dg_check.specs.Parts.{IsBlockOf, AreBlocksOf}
use Rattle.dg_check.specs.Places.{places_of_block}
use Rattle.dg_check.specs.Variables.{Definition, definitions_in, names_for}
use Rattle.dg_funcs.specs.Laws.{AreOfKind, FiltersMeanTheirTexts, RootsMeanTheirTexts}
use Rattle.dg_level.specs.Blocks.{nodes_of_block}
use Rattle.dg_level.specs.Given.{unknown, with_known, block_gives, run_at, none_known, run_in_order}
use Rattle.dg_level.specs.Meaning.{defined_in, variables_by}
use Rattle.dg_level.specs.PlannedGiven.{run_planned, planned_at_place, planned_in_order}
use Rattle.dg_level.proofs.KindPlaces.{all_parts, kind_at, AreOfKinds, of_kind, none_of_kind, more_of_kind, IsDefinedAt, defined_at}
use Rattle.dg_level.proofs.KindFields.{block_kind}
use Rattle.dg_level.proofs.KindMeanings.{block_alike}

-- none is known at first
none_alike : (ds : List Definition) → replicate (length ds) unknown ≡ none_known ds
none_alike [] = refl
none_alike (d ∷ ds) = ap (λ vars. unknown ∷ vars) (none_alike ds)

module _ (schema : List PredDef) (graph : List Triple) (ds : List Definition) (lawful : IsLawful schema graph) where
  -- ---- one block

  -- what the places of a block define is among the variables
  abbrev IsKnownBlock : QBlock → Type 0
  IsKnownBlock block = AllByRecursion (IsDefinedAt schema ds) (places_of_block block)

  -- a block that is there, and what is kept of it
  abbrev StandsAt : Option QBlock → Option Parts → Type 0
  StandsAt None None = ⊤
  StandsAt None (Some kept) = ⊥
  StandsAt (Some block) None = ⊥
  StandsAt (Some block) (Some kept) = IsBlockOf schema ds block kept × IsKnownBlock block

  block_at : (blocks : List QBlock) (kept : List Parts) (at : ℕ) → AreBlocksOf schema ds blocks kept → AllByRecursion IsKnownBlock blocks → StandsAt (slice_get blocks at) (slice_get kept at)
  block_at [] [] at are known = tt
  block_at [] (k ∷ kept) at are known = absurd are
  block_at (b ∷ blocks) [] at are known = absurd are
  block_at (b ∷ blocks) (k ∷ kept) zero are known = (are.0, known.0)
  block_at (b ∷ blocks) (k ∷ kept) (suc at) are known = block_at blocks kept at are.1 known.1

  run_keeps : (vars : List Variable) (block : Option QBlock) (kept : Option Parts) → StandsAt block kept → AreOfKinds (kind_at ds) vars
      → AreOfKinds (kind_at ds) (elim block [ None ↦ vars | Some b ↦ fold with_known vars (block_gives schema graph ds vars b) ])
  run_keeps vars None None stands a = a
  run_keeps vars None (Some kept) stands a = absurd stands
  run_keeps vars (Some block) None stands a = absurd stands
  run_keeps vars (Some block) (Some kept) stands a =
      let nodes = ascending nat_cmp (nodes_of_block graph ds vars block) in
      more_of_kind ds (block_gives schema graph ds vars block) vars (block_kind schema graph ds vars lawful block kept stands.0 stands.1 nodes) a

  runs_alike : FiltersMeanTheirTexts → RootsMeanTheirTexts → (vars : List Variable) (block : Option QBlock) (kept : Option Parts) → StandsAt block kept → AreOfKinds (kind_at ds) vars
      → run_planned schema graph vars block kept ≡ elim block [ None ↦ vars | Some b ↦ fold with_known vars (block_gives schema graph ds vars b) ]
  runs_alike filters_mean roots_mean vars None None stands a = refl
  runs_alike filters_mean roots_mean vars None (Some kept) stands a = absurd stands
  runs_alike filters_mean roots_mean vars (Some block) None stands a = absurd stands
  runs_alike filters_mean roots_mean vars (Some block) (Some kept) stands a = ap (fold with_known vars) (block_alike schema ds graph vars lawful (of_kind ds vars a) filters_mean roots_mean block kept stands.0)

  -- ---- block by block

  module _ (blocks : List QBlock) (kept : List Parts) (are : AreBlocksOf schema ds blocks kept) (known : AllByRecursion IsKnownBlock blocks) where
    run_of_kinds : (order : List ℕ) (vars : List Variable) → AreOfKinds (kind_at ds) vars → AreOfKinds (kind_at ds) (fold (run_at schema graph ds blocks) vars order)
    run_of_kinds [] vars a = a
    run_of_kinds (at ∷ order) vars a = run_of_kinds order (run_at schema graph ds blocks vars at) (run_keeps vars (slice_get blocks at) (slice_get kept at) (block_at blocks kept at are known) a)

    orders_alike : FiltersMeanTheirTexts → RootsMeanTheirTexts → (order : List ℕ) (vars : List Variable) → AreOfKinds (kind_at ds) vars
        → fold (planned_at_place schema graph blocks kept) vars order ≡ fold (run_at schema graph ds blocks) vars order
    orders_alike filters_mean roots_mean [] vars a = refl
    orders_alike filters_mean roots_mean (at ∷ order) vars a =
        let stands = block_at blocks kept at are known in
        let here : planned_at_place schema graph blocks kept vars at ≡ run_at schema graph ds blocks vars at = runs_alike filters_mean roots_mean vars (slice_get blocks at) (slice_get kept at) stands a in
        ap (λ (now : List Variable). fold (planned_at_place schema graph blocks kept) now order) here
        ∙ orders_alike filters_mean roots_mean order (run_at schema graph ds blocks vars at) (run_keeps vars (slice_get blocks at) (slice_get kept at) stands a)

  module _ (blocks : List QBlock) (kept : List Parts) (defined : ds ≡ definitions_in schema (flat_map places_of_block blocks)) (once : first_again [] (names_for false ds) ≡ None) (are : AreBlocksOf schema ds blocks kept) (order : List ℕ) where
    known_blocks : AllByRecursion IsKnownBlock blocks
    known_blocks = all_parts (IsDefinedAt schema ds) places_of_block blocks (defined_at schema (flat_map places_of_block blocks) ds defined once)

    -- in every order variables have values of their kinds
    pub run_has_kinds : AreOfKind ds (run_in_order schema graph ds blocks order)
    run_has_kinds = of_kind ds (run_in_order schema graph ds blocks order) (run_of_kinds blocks kept are known_blocks order (none_known ds) (none_of_kind (kind_at ds) ds))

    -- in every order they are by the plan what they are by the text
    pub planned_is_run : FiltersMeanTheirTexts → RootsMeanTheirTexts → planned_in_order schema graph (length ds) blocks kept order ≡ run_in_order schema graph ds blocks order
    planned_is_run filters_mean roots_mean =
        ap (λ (vars : List Variable). fold (planned_at_place schema graph blocks kept) vars order) (none_alike ds)
        ∙ orders_alike blocks kept are known_blocks filters_mean roots_mean order (none_known ds) (none_of_kind (kind_at ds) ds)

-- ---- of a plan

module _ (schema : List PredDef) (graph : List Triple) (query : Query) (plan : Plan) (lawful : IsLawful schema graph) (is : IsPlanOf schema query plan) (order : List ℕ) where
  named_once : first_again [] (names_for false (defined_in schema query)) ≡ None
  named_once = subst (λ (names : List (List ℕ)). first_again [] names ≡ None) is.vars is.once

  as_many : length plan.vars ≡ length (defined_in schema query)
  as_many = ap length is.vars ∙ length-map (defined_in schema query) (λ d. d.name)

  -- its variables have values of their kinds
  pub plan_has_kinds : AreOfKind (defined_in schema query) (variables_by schema graph query order)
  plan_has_kinds = run_has_kinds schema graph (defined_in schema query) lawful query.blocks plan.parts refl named_once is.parts order

  -- and are what they are by the text
  pub plan_is_run : FiltersMeanTheirTexts → RootsMeanTheirTexts → planned_in_order schema graph (length plan.vars) query.blocks plan.parts order ≡ variables_by schema graph query order
  plan_is_run filters_mean roots_mean =
      ap (λ count. planned_in_order schema graph count query.blocks plan.parts order) as_many
      ∙ planned_is_run schema graph (defined_in schema query) lawful query.blocks plan.parts refl named_once is.parts order filters_mean roots_mean
