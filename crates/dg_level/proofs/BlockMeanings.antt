-- The list of a block by its plan is what it is by the text.
use Rattle.std.proofs.Common.{◌≡◌, suc, List, [], ◌∷◌, length, refl, sym, ap, ◌∙◌}
use Rattle.std.specs.Prelude.{Option, Some, None, filter}
use Rattle.dg_schema.specs.declared.definition.PredDef.{PredDef}
use Rattle.dg_graph.specs.declared.change.Triple.{Triple}
use Rattle.dg_graph.specs.Graphs.{IsLawful}
use Rattle.dg_parse.specs.declared.query.QBlock.{QBlock}
use Rattle.dg_parse.specs.declared.query.QFunc.{QFunc}
use Rattle.dg_check.specs.declared.parts.Func.{Func}
use Rattle.dg_check.specs.declared.parts.Parts.{Parts}
use Rattle.dg_check.specs.declared.vars.Variable.{Variable}
use Rattle.dg_check.specs.Parts.{filters_in, IsRootOf, IsBlockOf, AreBlocksOf}
use Rattle.dg_check.specs.Variables.{Definition}
use Rattle.dg_funcs.specs.Laws.{AreOfKind, FiltersMeanTheirTexts, RootsMeanTheirTexts}
use Rattle.dg_shape.specs.Orders.{ordered, page}
use Rattle.dg_level.specs.Blocks.{nodes_at_root, nodes_of_block}
use Rattle.dg_level.specs.Planned.{planned_keys}
use Rattle.dg_level.specs.PlannedBlocks.{planned_root, planned_nodes}
use Rattle.dg_level.proofs.MeaningLaws.{keys_alike, filters_alike}

-- one for each
pub as_many : (schema : List PredDef) (ds : List Definition) (blocks : List QBlock) (kept : List Parts) → AreBlocksOf schema ds blocks kept → length blocks ≡ length kept
as_many schema ds [] [] are = refl
as_many schema ds [] (k ∷ kept) are = absurd are
as_many schema ds (b ∷ blocks) [] are = absurd are
as_many schema ds (b ∷ blocks) (k ∷ kept) are = ap suc (as_many schema ds blocks kept are.1)

module _ (schema : List PredDef) (ds : List Definition) (graph : List Triple) (vars : List Variable) (lawful : IsLawful schema graph) (kinds : AreOfKind ds vars) where
  root_is : RootsMeanTheirTexts → (q : Option QFunc) (f : Option Func) → IsRootOf schema ds q f → planned_root graph vars f ≡ nodes_at_root graph ds vars q
  root_is roots_mean None None is = refl
  root_is roots_mean None (Some f) is = absurd is
  root_is roots_mean (Some q) None is = absurd is
  root_is roots_mean (Some q) (Some f) is = sym (roots_mean schema ds graph vars q f lawful kinds is)

  -- by the plan it is what it is by the text
  pub nodes_are : FiltersMeanTheirTexts → RootsMeanTheirTexts → (block : QBlock) (kept : Parts) → IsBlockOf schema ds block kept → planned_nodes graph vars block.args kept ≡ nodes_of_block graph ds vars block
  nodes_are filters_mean roots_mean block kept is =
      let keys = ap (planned_keys graph vars) is.orders.0 ∙ keys_alike graph ds vars block.args in
      let root = root_is roots_mean block.func kept.root is.root in
      λ i. page block.args (ordered (keys i) (filter (λ n. filters_alike schema ds graph vars lawful kinds filters_mean n (filters_in block.dirs) kept.filters is.filters i) (root i)))
