use Rattle.std.proofs.Common.{◌≡◌, ◌+◌, ◌++◌, ◌∙◌, sym, ap, take, List}
use Rattle.dg_keys.specs.declared.record.Part.{Part}
use Rattle.dg_edges.proofs.ListLaws.{on_ok_with}
use Rattle.dg_txn.specs.Gains.{parts_from}
use Rattle.dg_pages.specs.Entries.{entries_of}
use Rattle.dg_pages.specs.Paged.{joined}
use Rattle.dg_txn.proofs.OwnSteps.{page_more, no_item}
use Rattle.dg_txn.proofs.gains.push_page_at.Goals as goal

pub unreachable-requires : goal.unreachable-requires
unreachable-requires c = no_item c.args.lists.now c.args.at (sym (rw c.in-None.is at c.page.ensures)) c.requires.there

pub returns : goal.returns
returns c =
    let there = sym (rw c.in-Some.is at c.page.ensures) in
    let more = page_more c.args.lists.now c.args.at (entries_of c.in-Some.page.now) there in
    on_ok_with c.push_page.result (c.push_page.new.parts.items ≡ c.args.parts.now.items ++ parts_from (entries_of c.in-Some.page.now)) (c.push_page.new.parts.items ≡ parts_from (joined (take (c.args.at + 1) c.args.lists.now)))
    (λ e. e ∙ (ap (λ (ps : List Part). ps ++ parts_from (entries_of c.in-Some.page.now)) c.requires.before ∙ more))
    c.push_page.ensures
