use Rattle.std.proofs.Common.{◌≡◌, ℕ, List, [], ap, subst, ◌∙◌}
use Rattle.std.specs.List.{list_any}
use Rattle.dg_check.specs.Cycles.{uses_name_at, definers}
use Rattle.dg_check.specs.Search.{with_new, Among, IsClosed}
use Rattle.dg_check.proofs.SearchLaws.{circular_by_search}
use Rattle.dg_check.proofs.cycles.is_circular.Goals as goal

pub returns-then-ended : goal.returns-then-ended
returns-then-ended c =
    let blocks = c.args.blocks.now in
    let name = c.args.name.now in
    let first = c.add_new.new.found in
    let found = c.add_led.new.found in
    let begun : first ≡ with_new [] (definers blocks name) = c.in_ok-add_new.ensures ∙ (λ i. with_new (c.none-found.ensures i) ((c.as_slice.ensures.value ∙ c.in_ok-definers.ensures) i)) in
    c.any_uses_name.ensures ∙ (ap (list_any (uses_name_at blocks name)) c.as_slice-then-ended.ensures ∙
    circular_by_search blocks name first found begun c.in_ok-ended.ensures.kept
    (subst (λ (deps : List (List ℕ)). (all : List ℕ) → IsClosed deps all → Among first all → Among found all) c.requires c.in_ok-ended.ensures.only)
    (subst (λ (deps : List (List ℕ)). IsClosed deps found) c.requires (c.in_ok-ended.ensures.closed c.if-ended.true)))
