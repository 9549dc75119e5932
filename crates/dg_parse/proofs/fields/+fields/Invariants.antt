use Rattle.std.proofs.Common.{◌≡◌, ◌+◌, ◌-◌, ◌*◌}
use Rattle.dg_text.specs.Reading.{turns}
use Rattle.dg_text.specs.Tokens.{toks}
use Rattle.dg_text.specs.Cases.{upon, left_of}
use Rattle.dg_parse.specs.Fields.{begins_field, field, fields, some_fields}
use Rattle.dg_parse.proofs.fields.+fields.Given as goal

-- each calls only those above it at its depth, and the fields of a list those at a smaller depth
abbrev pub decreases-fields_at : goal.decreases-fields_at
decreases-fields_at l = 7 * l.depth + 0

abbrev pub decreases-braces_at : goal.decreases-braces_at
decreases-braces_at l = 7 * l.depth + 1

abbrev pub decreases-any_braces_at : goal.decreases-any_braces_at
decreases-any_braces_at l = 7 * l.depth + 2

abbrev pub decreases-edge_item_at : goal.decreases-edge_item_at
decreases-edge_item_at l = 7 * l.depth + 3

abbrev pub decreases-item_at : goal.decreases-item_at
decreases-item_at l = 7 * l.depth + 4

abbrev pub decreases-field_at : goal.decreases-field_at
decreases-field_at l = 7 * l.depth + 5

abbrev pub decreases-all_fields_at : goal.decreases-all_fields_at
decreases-all_fields_at l = 7 * l.depth + 6

abbrev pub invariant-all_fields_at-loop : goal.invariant-all_fields_at-loop
invariant-all_fields_at-loop l =
    turns (l.most - l.counter) (upon begins_field) (field l.around (fields l.around l.depth)) l.all (left_of (toks l.tokens) l.p)
    ≡ some_fields l.fn.around (fields l.fn.around l.fn.depth) (left_of (toks l.fn.tokens) l.fn.start)
