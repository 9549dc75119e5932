use Rattle.std.proofs.Common.{rules, ◌∙◌, ap}
use Rattle.dg_pages.specs.Entries.{entries_of}
use Rattle.dg_pages.proofs.PutLemmas.{set_is, insert_is}
use Rattle.dg_pages.proofs.puts.put_in_page.Goals as goal

pub returns-then-is_at-clause-put : goal.returns-then-is_at-clause-put
returns-then-is_at-clause-put g c =
    set_is g.met.K.Ord.total c.args.pairs.now.items c.place-at.result (c.in_ok-try_clone.field-0, c.in_ok-try_clone-2.field-0) _ _ (search rules) (search rules) (search rules) (search rules) (search rules)

pub returns-in_ok-insert-clause-put : goal.returns-in_ok-insert-clause-put
returns-in_ok-insert-clause-put g c =
    ap entries_of c.in_ok-insert.ensures.items
    ∙ insert_is g.met.K.Ord.total c.args.pairs.now.items c.place-at.result (c.in_ok-try_clone.field-0, c.in_ok-try_clone-2.field-0) _ _ (search rules) (search rules) (search rules) (search rules)
