use Rattle.std.specs.Arc.{arc_value}
use Rattle.table_runs.proofs.Knowing.{has_begun}
use Rattle.table_runs.proofs.groups.counting.Counting.begin.Goals as goal

pub returns-in-Ok-clause-begun : goal.returns-in-Ok-clause-begun
returns-in-Ok-clause-begun c = has_begun c.self.inside.owned c.begin.new.self c.in_ok-slip.slip c.in-Ok.begun.start (arc_value c.in-Ok.begun.schema) (arc_value c.in-Ok.begun.owners) c.in-Ok.pins.items c.in-Ok.ensures.ok c.in-Ok.ensures.legal c.in-Ok.ensures.start c.in-Ok.ensures.schema c.in-Ok.ensures.owners c.in-Ok.ensures.pins
