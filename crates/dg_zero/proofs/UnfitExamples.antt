-- Entries that don't fit where they would stand in the small histories.
use Rattle.std.proofs.Common.{◌≤◌, false, [], ◌∷◌, refl, ap, arith, length, take, codes}
use Rattle.std.proofs.lemmas.Bool.{eqb-false}
use Rattle.dg_values.specs.declared.kind.Kind.TheVariants as kinds
use Rattle.dg_values.specs.declared.value.Posting.TheVariants.{Uid}
use Rattle.dg_delta.specs.declared.op.Op.TheVariants as ops
use Rattle.dg_schema.specs.declared.definition.PredDef.{PredDef}
use Rattle.dg_graph.specs.declared.change.Change.TheVariants.{Set, Del}
use Rattle.dg_zero.specs.declared.entry.Event.TheVariants.{Begin, Commit, Refused, End, Lease, Alter, Line, Rolled, MoveStart, MoveCopied, Flip}
use Rattle.dg_zero.specs.declared.entry.Reason.TheVariants.{Conflict}
use Rattle.dg_zero.specs.Legal.{Fits}
use Rattle.dg_zero.specs.Examples.{text, part, written, friend_key, friends_history, names, named, name_data, name_index, ann_keys, bob_keys, bob_parts, bob_commit, ann_history, rolled_history, moved_history, indexed_history, emails_history}

-- ---- counters

-- a start that isn't the next timestamp
pub later_start : Fits 2 friends_history 0 (Begin 8) → ⊥
later_start f = eqb-false 8 7 refl f.0

-- nodes that are leased already
pub leased_again : Fits 2 (take 4 emails_history) 0 (Lease 0 1 1) → ⊥
leased_again f = eqb-false 1 2 refl f.first_is

-- a start that another author began
pub of_another : Fits 2 (take 5 rolled_history) 1 (End 5) → ⊥
of_another f = absurd (cc)

-- one that has ended
pub ended_twice : Fits 2 (take 12 rolled_history) 0 (End 5) → ⊥
ended_twice f = absurd (cc)

-- a line at an active start
pub line_at_start : Fits 2 (take 5 rolled_history) 0 (Line 5) → ⊥
line_at_start f = eqb-false 5 4 refl f.1

-- ---- commits

-- keys without the old name's token
pub no_old_token : Fits 2 (take 8 rolled_history) 0 (Commit 6 (codes "name" ∷ []) ann_keys (Set (named (codes "Bob")) ∷ []) (written 7 bob_parts)) → ⊥
no_old_token f = eqb-false 2 3 refl (ap length f.made_of.keys_are)

-- other changes asked for than were written
pub asked_otherwise : Fits 2 (take 8 rolled_history) 0 (Commit 6 (codes "name" ∷ []) bob_keys (Del (named (codes "Ann")) ∷ []) (written 7 bob_parts)) → ⊥
asked_otherwise f = eqb-false 1 0 refl (ap length f.made_of.lead_alike)

-- the part of the index left out
pub no_index_part : Fits 2 (take 3 ann_history) 0 (Commit 3 (codes "name" ∷ []) ann_keys (Set (named (codes "Ann")) ∷ []) (written 4 (part name_data (ops.Set (text (codes "Ann")) ∷ []) ∷ []))) → ⊥
no_index_part f = eqb-false 0 1 refl (ap length (f.sound.parts_are.exact (name_index (codes "Ann"))))

-- a part of a list that doesn't change
pub part_too_many : Fits 2 (take 3 ann_history) 0 (Commit 3 (codes "name" ∷ []) ann_keys (Set (named (codes "Ann")) ∷ []) (written 4 (part name_data (ops.Set (text (codes "Ann")) ∷ []) ∷ part (name_index (codes "Ann")) (ops.Set (Uid 1) ∷ []) ∷ part (name_index (codes "Bob")) (ops.Del (Uid 1) ∷ []) ∷ []))) → ⊥
part_too_many f = eqb-false 1 0 refl (ap length (f.sound.parts_are.exact (name_index (codes "Bob"))))

-- a key that a commit above the start has
pub late_commit : Fits 2 (take 9 rolled_history) 0 (bob_commit 5 8) → ⊥
late_commit f = absurd (let e = f.clear in cc)

-- a tablet that is held
pub held_commit : Fits 2 (take 10 moved_history) 0 (bob_commit 6 7) → ⊥
held_commit f = absurd (let e = f.clear in cc)

-- a conflict that isn't there
pub no_conflict : Fits 2 (take 6 friends_history) 0 (Refused 4 (Conflict (friend_key 3) 5)) → ⊥
no_conflict f = absurd (let e = f.1 in cc)

-- ---- alters

-- while a transaction is active
pub alter_beside_active : Fits 2 (take 2 ann_history) 0 (Alter 4 (names ∷ []) (written 5 [])) → ⊥
alter_beside_active f = absurd (let e = f.1.none_active in cc)

-- `name: uid .`
abbrev node_names : PredDef
node_names = record { name = codes "name"; kind = kinds.Uid; list = false; tokens = []; reverse = false; count = false; upsert = false }

-- another kind over a predicate with a triple
pub other_kind : Fits 2 ann_history 0 (Alter 5 (node_names ∷ []) (written 6 [])) → ⊥
other_kind f = eqb-false 5 2 refl ((f.1.kinds.0 refl).0)

-- an index over names that are there, without its part
pub unlisted_index : Fits 2 (take 4 indexed_history) 0 (Alter 5 (names ∷ []) (written 6 [])) → ⊥
unlisted_index f = eqb-false 0 1 refl (ap length (f.1.parts_are.exact (name_index (codes "Ann"))))

-- ---- moves and copies

-- to the group that owns the tablet
pub move_nowhere : Fits 2 ann_history 0 (MoveStart (codes "name") 1) → ⊥
move_nowhere f = f.1.owned refl

-- to a group that there isn't
pub move_beyond : Fits 2 ann_history 0 (MoveStart (codes "name") 3) → ⊥
move_beyond f = let e : 3 ≤ 2 = f.1.most in omega arith

-- to a group that keeps an old copy
pub move_to_old_copy : Fits 2 (take 16 moved_history) 0 (MoveStart (codes "name") 1) → ⊥
move_to_old_copy f = absurd (let e = f.1.no_copy in cc)

-- an image without a move
pub image_of_none : Fits 2 (take 5 moved_history) 0 (MoveCopied (codes "name")) → ⊥
image_of_none f = absurd (let e = f.1 in cc)

-- a flip before the hold, and one with another end
pub early_flip : Fits 2 (take 7 moved_history) 0 (Flip (codes "name") 5) → ⊥
early_flip f = absurd (let e = f.1 in cc)

pub other_end : Fits 2 (take 11 moved_history) 0 (Flip (codes "name") 5) → ⊥
other_end f = eqb-false 5 6 refl f.2

-- a merge above the line, one below the mark, and one of a copy that there isn't
pub merged_above : Fits 2 (take 9 rolled_history) 0 (Rolled (codes "name") 1 7) → ⊥
merged_above f = let e : 7 ≤ 4 = f.1.below in omega arith

pub merged_back : Fits 2 (take 10 rolled_history) 0 (Rolled (codes "name") 1 3) → ⊥
merged_back f = let e : 4 ≤ 3 = f.1.copy in omega arith

pub merged_elsewhere : Fits 2 (take 9 rolled_history) 0 (Rolled (codes "name") 2 4) → ⊥
merged_elsewhere f = f.1.copy
