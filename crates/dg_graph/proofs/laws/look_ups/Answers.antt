use Rattle.dg_graph.proofs.LookUpLaws.{where_are, ranges_by_tokens, holders_are, pointed_are, with_objects_are, with_subjects_are, by_count_are, by_count_ascend}
use Rattle.dg_graph.proofs.laws.look_ups.Goals as goal

pub returns : goal.returns
returns c = record { tests = where_are; ranges = ranges_by_tokens; holders = holders_are; pointed = pointed_are; with_objects = with_objects_are; with_subjects = with_subjects_are; found = by_count_are; found_ascend = by_count_ascend }
