-- What the small histories come to, computed: what keys list, what lists gain and lose, by which keys changes conflict, verdicts,
-- copies and their marks, phases, owners, the line and the stream of records. Each value was worked out by hand first.
use Rattle.std.proofs.Common.{◌≡◌, ℕ, ◌-◌, List, [], ◌∷◌, ◌++◌, Some, None, refl, map, length, take, codes}
use Rattle.std.specs.Char.{encode_utf8}
use Rattle.std.specs.Str.{chars}
use Rattle.std.specs.Fmt.{digits}
use Rattle.dg_values.specs.declared.kind.Tokenizer.TheVariants as tokenizers
use Rattle.dg_values.specs.declared.value.Posting.TheVariants.{Uid}
use Rattle.dg_values.specs.declared.value.Value.TheVariants.{Text}
use Rattle.dg_delta.specs.declared.op.Op.TheVariants as ops
use Rattle.dg_delta.specs.Ops.{changes_between}
use Rattle.dg_graph.specs.declared.change.Change.{Change}
use Rattle.dg_graph.specs.declared.change.Change.TheVariants.{Set, Del}
use Rattle.dg_graph.specs.Graphs.{after_changes}
use Rattle.dg_tokens.specs.Tokens.{tokens_of}
use Rattle.dg_keys.specs.declared.key.Key.TheVariants as keys
use Rattle.dg_keys.specs.declared.conflict.ConflictKey.{ConflictKey}
use Rattle.dg_keys.specs.declared.conflict.ConflictKey.TheVariants as conflicts
use Rattle.dg_keys.specs.declared.record.Part.{Part}
use Rattle.dg_keys.specs.Conflicts.{conflict_text}
use Rattle.dg_zero.specs.declared.entry.Entry.{Entry}
use Rattle.dg_zero.specs.declared.entry.Reason.TheVariants.{Moving, Conflict}
use Rattle.dg_zero.specs.declared.tablets.Phase.TheVariants.{Idle, Started, Copied, Held}
use Rattle.dg_zero.specs.Counters.{next, last, next_uid, active, starts_of, line, line_now}
use Rattle.dg_zero.specs.Exact.{listed_at}
use Rattle.dg_zero.specs.Listings.{conflict_keys, listing}
use Rattle.dg_zero.specs.Places.{Copy, copies, copy_at, at_rest, fresh, owner, phase, tablets}
use Rattle.dg_zero.specs.Records.{changed_keys, next_record}
use Rattle.dg_zero.specs.States.{owners}
use Rattle.dg_zero.specs.Verdicts.{verdict}
use Rattle.dg_zero.specs.Worlds.{schema_at, graph_at}
use Rattle.dg_zero.specs.Examples.{text, token, number_token, triple, friend, friend_key, count_key, friend_part, friends_history, pointed_parts, pointed_history, best_friend, other_friend_keys, other_friend_parts, first_friend_parts, second_friend_parts, counted_history, at_group, written, part, tag, run_key, run_index, two_tags_parts, two_tags_keys, one_tag_parts, first_tag_keys, second_tag_keys, tags_history, named, name_data, name_index, name_key, ann_parts, bob_parts, ann_keys, bob_keys, names_declared, rolled_history, moved_history, called_off_history, released_history, late_history, old_copy_history, merged_image_history, ann_index_part, indexed_history, email, email_token, email_keys, email_parts, emails_history, film_schema, film_tablets, two_films, film_preds, film_keys, director_parts, catalogue_parts, no_director_parts, no_director_keys, films_history}

-- ---- words for what is asked of a history

-- the keys by which changes conflict, over the graph at a start
abbrev keys_at : List Entry → ℕ → List Change → List ConflictKey
keys_at history start changes = conflict_keys (schema_at history start) (graph_at history start []) changes

-- what the list of a part's key gains and loses at a timestamp
abbrev gains_at : List Entry → ℕ → Part → Part
gains_at history ts part = record { key = part.key; ops = changes_between (listed_at history (ts - 1) part.key) (listed_at history ts part.key) }

-- a copy without an end
abbrev lasting : List ℕ → ℕ → ℕ → Copy
lasting pred group mark = record { pred = pred; group = group; mark = mark; until = None }

-- and one that is read up to a timestamp
abbrev ending : List ℕ → ℕ → ℕ → ℕ → Copy
ending pred group mark until = record { pred = pred; group = group; mark = mark; until = Some until }

-- ---- friends: two transactions at once give node 1 a friend each

-- the first friend's key and the second's differ, so neither is refused
pub first_friend_keys : keys_at friends_history 3 (Set (friend 2) ∷ []) ≡ friend_key 2 ∷ []
first_friend_keys = refl

pub second_friend_keys : keys_at friends_history 4 (Set (friend 3) ∷ []) ≡ friend_key 3 ∷ []
second_friend_keys = refl

pub second_friend_clear : verdict (take 6 friends_history) 4 (codes "friend" ∷ []) (friend_key 3 ∷ []) ≡ None
second_friend_clear = refl

-- node 1 has no friend at first, then one, then both, and nobody is counted
pub no_friend : listed_at friends_history 4 (keys.Data (codes "friend") 1) ≡ []
no_friend = refl

pub one_friend : listed_at friends_history 5 (keys.Data (codes "friend") 1) ≡ Uid 2 ∷ []
one_friend = refl

pub two_friends : listed_at friends_history 6 (keys.Data (codes "friend") 1) ≡ Uid 2 ∷ Uid 3 ∷ []
two_friends = refl

pub nobody_counted : listed_at friends_history 6 (keys.Count (codes "friend") 2) ≡ []
nobody_counted = refl

-- each commit's parts are what its lists gain
pub friend_gained : map (gains_at friends_history 5) (friend_part 2 ∷ []) ≡ friend_part 2 ∷ []
friend_gained = refl

pub second_friend_gained : map (gains_at friends_history 6) (friend_part 3 ∷ []) ≡ friend_part 3 ∷ []
second_friend_gained = refl

-- both have committed: the next timestamp and node, the line where it would be set now, and the owners
pub friends_next : next friends_history ≡ 7
friends_next = refl

pub friends_next_uid : next_uid friends_history ≡ 4
friends_next_uid = refl

pub friends_line_now : line_now friends_history ≡ 6
friends_line_now = refl

pub friends_owners : owners friends_history ≡ at_group (codes "friend") 1 ∷ []
friends_owners = refl

-- `@reverse` and `@count` declared over both
pub pointed_gained : map (gains_at pointed_history 8) pointed_parts ≡ pointed_parts
pointed_gained = refl

pub pointed_data_stays : gains_at pointed_history 8 (part (keys.Data (codes "friend") 1) []) ≡ part (keys.Data (codes "friend") 1) []
pointed_data_stays = refl

-- one friend that takes the place of another, where one is allowed
pub other_friend_conflicts_by : conflict_keys (best_friend ∷ []) (friend 2 ∷ []) (Set (friend 3) ∷ []) ≡ other_friend_keys
other_friend_conflicts_by = refl

pub other_friend_gained : map (λ p. changes_between (listing (best_friend ∷ []) (friend 2 ∷ []) p.key) (listing (best_friend ∷ []) (friend 3 ∷ []) p.key)) other_friend_parts ≡ map (λ p. p.ops) other_friend_parts
other_friend_gained = refl

pub other_friend_leads : after_changes (best_friend ∷ []) (friend 2 ∷ []) (Set (friend 3) ∷ []) ≡ friend 3 ∷ []
other_friend_leads = refl

-- it is still one friend
pub still_one_friend : changes_between (listing (best_friend ∷ []) (friend 2 ∷ []) (keys.Count (codes "friend") 1)) (listing (best_friend ∷ []) (friend 3 ∷ []) (keys.Count (codes "friend") 1)) ≡ []
still_one_friend = refl

-- ---- counted friends: the second is refused, and commits when it tries again

-- both change how many friends node 1 has
pub first_counted_keys : keys_at counted_history 3 (Set (friend 2) ∷ []) ≡ friend_key 2 ∷ count_key ∷ []
first_counted_keys = refl

pub second_counted_keys : keys_at counted_history 4 (Set (friend 3) ∷ []) ≡ friend_key 3 ∷ count_key ∷ []
second_counted_keys = refl

pub counted_conflict : verdict (take 6 counted_history) 4 (codes "friend" ∷ []) (friend_key 3 ∷ count_key ∷ []) ≡ Some (Conflict count_key 5)
counted_conflict = refl

pub counted_clear : verdict (take 9 counted_history) 6 (codes "friend" ∷ []) (friend_key 3 ∷ count_key ∷ []) ≡ None
counted_clear = refl

pub count_key_text : conflict_text count_key ≡ codes "count friend 0x1"
unfolding digits
count_key_text = refl

-- nodes by how many friends they have
pub one_has_one : listed_at counted_history 5 (keys.Count (codes "friend") 1) ≡ Uid 1 ∷ []
one_has_one = refl

pub none_has_two : listed_at counted_history 5 (keys.Count (codes "friend") 2) ≡ []
none_has_two = refl

pub none_has_one : listed_at counted_history 7 (keys.Count (codes "friend") 1) ≡ []
none_has_one = refl

pub one_has_two : listed_at counted_history 7 (keys.Count (codes "friend") 2) ≡ Uid 1 ∷ []
one_has_two = refl

-- nobody is listed as one without friends
pub none_has_none : listed_at counted_history 7 (keys.Count (codes "friend") 0) ≡ []
none_has_none = refl

-- each commit's parts are what its lists gain and lose
pub first_count_gained : map (gains_at counted_history 5) first_friend_parts ≡ first_friend_parts
first_count_gained = refl

pub second_count_gained : map (gains_at counted_history 7) second_friend_parts ≡ second_friend_parts
second_count_gained = refl

-- ---- tags: two transactions each delete one of two tags with three characters in common

-- the runs of three characters of a tag
pub runs_of_tag : tokens_of tokenizers.Trigram (Text (codes "abcd")) ≡ token tokenizers.Trigram (codes "abc") ∷ token tokenizers.Trigram (codes "bcd") ∷ []
unfolding chars encode_utf8
runs_of_tag = refl

pub two_tags_conflict_by : keys_at tags_history 3 (Set (tag (codes "bcde")) ∷ Set (tag (codes "abcd")) ∷ []) ≡ two_tags_keys
unfolding chars encode_utf8
two_tags_conflict_by = refl

-- a tag that goes has the key of what it has in common too, though that list doesn't change
pub second_tag_conflicts_by : keys_at tags_history 5 (Del (tag (codes "bcde")) ∷ []) ≡ second_tag_keys
unfolding chars encode_utf8
second_tag_conflicts_by = refl

pub first_tag_conflicts_by : keys_at tags_history 6 (Del (tag (codes "abcd")) ∷ []) ≡ first_tag_keys
unfolding chars encode_utf8
first_tag_conflicts_by = refl

pub tags_clear : verdict (take 8 tags_history) 5 (codes "tag" ∷ []) second_tag_keys ≡ None
tags_clear = refl

pub tags_conflict : verdict (take 9 tags_history) 6 (codes "tag" ∷ []) first_tag_keys ≡ Some (Conflict (run_key (codes "bcd")) 7)
tags_conflict = refl

-- what the tags have in common stays by the first, and what the second has alone goes
pub common_before : listed_at tags_history 4 (run_index (codes "bcd")) ≡ Uid 1 ∷ []
unfolding chars encode_utf8
common_before = refl

pub common_after : listed_at tags_history 7 (run_index (codes "bcd")) ≡ Uid 1 ∷ []
unfolding chars encode_utf8
common_after = refl

pub own_before : listed_at tags_history 4 (run_index (codes "cde")) ≡ Uid 1 ∷ []
unfolding chars encode_utf8
own_before = refl

pub own_after : listed_at tags_history 7 (run_index (codes "cde")) ≡ []
unfolding chars encode_utf8
own_after = refl

-- without the tokenizer a whole text isn't found
pub no_exact_tags : listed_at tags_history 7 (keys.Index (codes "tag") (token tokenizers.Exact (codes "abcd"))) ≡ []
no_exact_tags = refl

pub two_tags_gained : map (gains_at tags_history 4) two_tags_parts ≡ two_tags_parts
unfolding chars encode_utf8
two_tags_gained = refl

pub one_tag_gained : map (gains_at tags_history 7) one_tag_parts ≡ one_tag_parts
unfolding chars encode_utf8
one_tag_gained = refl

pub common_stays : gains_at tags_history 7 (part (run_index (codes "bcd")) []) ≡ part (run_index (codes "bcd")) []
unfolding chars encode_utf8
common_stays = refl

-- ---- names, and copies that are merged

-- the first name's keys, and those of one that takes its place: the old name's token too
pub ann_conflicts_by : keys_at rolled_history 3 (Set (named (codes "Ann")) ∷ []) ≡ ann_keys
ann_conflicts_by = refl

pub bob_conflicts_by : keys_at rolled_history 6 (Set (named (codes "Bob")) ∷ []) ≡ bob_keys
bob_conflicts_by = refl

pub bob_clear : verdict (take 8 rolled_history) 6 (codes "name" ∷ []) bob_keys ≡ None
bob_clear = refl

-- from a start before that commit it would be refused
pub bob_late : verdict (take 9 rolled_history) 5 (codes "name" ∷ []) bob_keys ≡ Some (Conflict name_key 7)
bob_late = refl

-- of two commits above a start the later one is named
pub bob_later : verdict (take 9 rolled_history) 3 (codes "name" ∷ []) bob_keys ≡ Some (Conflict name_key 7)
bob_later = refl

pub name_key_text : conflict_text name_key ≡ codes "data name 0x1"
unfolding digits
name_key_text = refl

-- what is read at the start before the commit, and at the commit
pub ann_at_start : listed_at rolled_history 5 name_data ≡ text (codes "Ann") ∷ []
ann_at_start = refl

pub bob_at_commit : listed_at rolled_history 7 name_data ≡ text (codes "Bob") ∷ []
bob_at_commit = refl

pub who_is_ann : listed_at rolled_history 6 (name_index (codes "Ann")) ≡ Uid 1 ∷ []
who_is_ann = refl

pub nobody_is_ann : listed_at rolled_history 7 (name_index (codes "Ann")) ≡ []
nobody_is_ann = refl

pub who_is_bob : listed_at rolled_history 7 (name_index (codes "Bob")) ≡ Uid 1 ∷ []
who_is_bob = refl

pub ann_gained : map (gains_at rolled_history 4) ann_parts ≡ ann_parts
ann_gained = refl

pub bob_gained : map (gains_at rolled_history 7) bob_parts ≡ bob_parts
bob_gained = refl

-- the line: none at first, then below the active start, then the last timestamp
pub no_line : line (take 5 rolled_history) ≡ 0
no_line = refl

pub line_below_start : line (take 6 rolled_history) ≡ 4
line_below_start = refl

pub line_at_last : line (take 13 rolled_history) ≡ 7
line_at_last = refl

-- the only copy: not merged before, merged up to the planned line, and then to the later one, the second time without a change
pub copy_unmerged : copies (take 9 rolled_history) ≡ lasting (codes "name") 1 0 ∷ []
copy_unmerged = refl

pub copy_merged : copies (take 10 rolled_history) ≡ lasting (codes "name") 1 4 ∷ []
copy_merged = refl

pub copy_merged_again : copies (take 14 rolled_history) ≡ lasting (codes "name") 1 7 ∷ []
copy_merged_again = refl

pub copy_stays : copies rolled_history ≡ lasting (codes "name") 1 7 ∷ []
copy_stays = refl

-- the lists that each merge has to take in: two, then three, then none
pub two_keys_merged : changed_keys rolled_history (codes "name") 0 4 ≡ name_data ∷ name_index (codes "Ann") ∷ []
two_keys_merged = refl

pub three_keys_merged : changed_keys rolled_history (codes "name") 4 7 ≡ name_data ∷ name_index (codes "Ann") ∷ name_index (codes "Bob") ∷ []
three_keys_merged = refl

pub no_keys_merged : changed_keys rolled_history (codes "name") 7 7 ≡ []
no_keys_merged = refl

-- the stream of records: the alter's, the first commit's, the second's, and no more
pub first_record : next_record rolled_history 0 ≡ Some names_declared
first_record = refl

pub second_record : next_record rolled_history 2 ≡ Some (written 4 ann_parts)
second_record = refl

pub record_above : next_record rolled_history 3 ≡ Some (written 4 ann_parts)
record_above = refl

pub third_record : next_record rolled_history 4 ≡ Some (written 7 bob_parts)
third_record = refl

pub no_record : next_record rolled_history 7 ≡ None
no_record = refl

-- ---- a move to group 2, to its end

-- the phases, in turn
pub move_idle : phase (take 5 moved_history) (codes "name") ≡ Idle
move_idle = refl

pub move_started : phase (take 6 moved_history) (codes "name") ≡ Started
move_started = refl

pub move_copied : phase (take 7 moved_history) (codes "name") ≡ Copied
move_copied = refl

pub move_held : phase (take 8 moved_history) (codes "name") ≡ Held
move_held = refl

pub move_flipped : phase (take 12 moved_history) (codes "name") ≡ Idle
move_flipped = refl

pub move_back : phase moved_history (codes "name") ≡ Started
move_back = refl

-- one tablet throughout: on its way, and at its new owner
pub on_its_way : tablets (take 8 moved_history) ≡ (record { pred = codes "name"; group = 1; phase = Held; to = 2 }) ∷ []
on_its_way = refl

pub at_its_owner : tablets (take 12 moved_history) ≡ at_rest (codes "name") 2 ∷ []
at_its_owner = refl

-- the owner changes by the flip alone
pub owner_while_held : owner (take 11 moved_history) (codes "name") ≡ Some 1
owner_while_held = refl

pub owner_after_flip : owner (take 12 moved_history) (codes "name") ≡ Some 2
owner_after_flip = refl

pub owners_before : owners (take 11 moved_history) ≡ at_group (codes "name") 1 ∷ []
owners_before = refl

pub owners_after : owners moved_history ≡ at_group (codes "name") 2 ∷ []
owners_after = refl

-- the new group's copy comes with the image, and the old one gets its end by the flip
pub copies_started : copies (take 6 moved_history) ≡ lasting (codes "name") 1 0 ∷ []
copies_started = refl

pub copies_copied : copies (take 7 moved_history) ≡ lasting (codes "name") 1 0 ∷ lasting (codes "name") 2 0 ∷ []
copies_copied = refl

pub copies_flipped : copies (take 12 moved_history) ≡ ending (codes "name") 1 0 6 ∷ lasting (codes "name") 2 0 ∷ []
copies_flipped = refl

-- an old copy stays while the line is below its end, so no move may go back to its group, and goes when the line gets there
pub old_copy_stays : copies (take 15 moved_history) ≡ ending (codes "name") 1 0 6 ∷ lasting (codes "name") 2 0 ∷ []
old_copy_stays = refl

pub old_copy_found : copy_at (copies (take 16 moved_history)) (codes "name") 1 ≡ Some (ending (codes "name") 1 0 6)
old_copy_found = refl

pub old_copy_gone : copies (take 18 moved_history) ≡ lasting (codes "name") 2 0 ∷ []
old_copy_gone = refl

pub may_go_back : copy_at (copies (take 18 moved_history)) (codes "name") 1 ≡ None
may_go_back = refl

-- a commit is refused while the tablet is held, and not before or after
pub moving_while_held : verdict (take 10 moved_history) 6 (codes "name" ∷ []) bob_keys ≡ Some (Moving (codes "name"))
moving_while_held = refl

pub clear_while_copied : verdict (take 7 moved_history) 5 (codes "name" ∷ []) bob_keys ≡ None
clear_while_copied = refl

pub clear_after_flip : verdict (take 13 moved_history) 7 (codes "name" ∷ []) bob_keys ≡ None
clear_after_flip = refl

-- counters after the flip and one more start: the next timestamp and node, the line and the active starts
pub moved_next : next (take 13 moved_history) ≡ 8
moved_next = refl

pub moved_next_uid : next_uid (take 13 moved_history) ≡ 2
moved_next_uid = refl

pub moved_line : line (take 13 moved_history) ≡ 0
moved_line = refl

pub moved_active : starts_of (active (take 13 moved_history)) ≡ 5 ∷ 7 ∷ []
moved_active = refl

-- the end of the flip was the last timestamp
pub flip_at_last : last (take 11 moved_history) ≡ 6
flip_at_last = refl

-- the line: below the first start, and below the second when that has ended
pub moved_line_first : line (take 15 moved_history) ≡ 4
moved_line_first = refl

pub moved_line_second : line (take 18 moved_history) ≡ 6
moved_line_second = refl

-- readers before the flip and after it see the same name
pub read_before_flip : listed_at moved_history 5 name_data ≡ text (codes "Ann") ∷ []
read_before_flip = refl

pub read_after_flip : listed_at moved_history 7 name_data ≡ text (codes "Ann") ∷ []
read_after_flip = refl

-- ---- moves that are called off, changes during a move, and merges during one

-- the image goes, the owner stays, and commits go through
pub called_off_copied : copies (take 6 called_off_history) ≡ lasting (codes "name") 1 0 ∷ lasting (codes "name") 2 0 ∷ []
called_off_copied = refl

pub called_off_copies : copies (take 7 called_off_history) ≡ lasting (codes "name") 1 0 ∷ []
called_off_copies = refl

pub called_off_tablets : tablets (take 7 called_off_history) ≡ at_rest (codes "name") 1 ∷ []
called_off_tablets = refl

pub called_off_clear : verdict (take 9 called_off_history) 5 (codes "name" ∷ []) bob_keys ≡ None
called_off_clear = refl

pub called_off_phase : phase called_off_history (codes "name") ≡ Idle
called_off_phase = refl

pub called_off_next : next called_off_history ≡ 7
called_off_next = refl

pub called_off_next_uid : next_uid called_off_history ≡ 2
called_off_next_uid = refl

pub called_off_active : starts_of (active called_off_history) ≡ []
called_off_active = refl

-- the same from the hold
pub released_held : phase (take 7 released_history) (codes "name") ≡ Held
released_held = refl

pub released_idle : phase (take 8 released_history) (codes "name") ≡ Idle
released_idle = refl

pub released_copies : copies released_history ≡ lasting (codes "name") 1 0 ∷ []
released_copies = refl

pub released_clear : verdict (take 10 released_history) 5 (codes "name" ∷ []) bob_keys ≡ None
released_clear = refl

-- a commit between the image and the hold goes through, and is read after the flip
pub late_clear : verdict (take 8 late_history) 5 (codes "name" ∷ []) bob_keys ≡ None
late_clear = refl

pub late_read : listed_at late_history 7 name_data ≡ text (codes "Bob") ∷ []
late_read = refl

pub late_copies : copies late_history ≡ ending (codes "name") 1 0 6 ∷ lasting (codes "name") 2 0 ∷ []
late_copies = refl

pub late_owner : owner late_history (codes "name") ≡ Some 2
late_owner = refl

-- planned work is installed at the old copy, and the new owner's copy has its own mark
pub old_copy_merged : copies (take 11 old_copy_history) ≡ ending (codes "name") 1 4 5 ∷ lasting (codes "name") 2 0 ∷ []
old_copy_merged = refl

pub both_copies_merged : copies old_copy_history ≡ ending (codes "name") 1 4 5 ∷ lasting (codes "name") 2 4 ∷ []
both_copies_merged = refl

pub old_copy_read : listed_at old_copy_history 5 name_data ≡ text (codes "Ann") ∷ []
old_copy_read = refl

-- the owner is merged while its image has the mark from before; the line lets the old copy go, and the new one is merged
pub image_has_old_mark : copies (take 8 merged_image_history) ≡ lasting (codes "name") 1 4 ∷ lasting (codes "name") 2 0 ∷ []
image_has_old_mark = refl

pub merged_flipped : copies (take 10 merged_image_history) ≡ ending (codes "name") 1 4 4 ∷ lasting (codes "name") 2 0 ∷ []
merged_flipped = refl

pub merged_old_gone : copies (take 11 merged_image_history) ≡ lasting (codes "name") 2 0 ∷ []
merged_old_gone = refl

pub merged_copies : copies merged_image_history ≡ lasting (codes "name") 2 4 ∷ []
merged_copies = refl

-- ---- an index that is declared over names that are there, and taken back

pub not_indexed : listed_at indexed_history 4 (name_index (codes "Ann")) ≡ []
not_indexed = refl

pub indexed : listed_at indexed_history 6 (name_index (codes "Ann")) ≡ Uid 1 ∷ []
indexed = refl

pub no_longer_indexed : listed_at indexed_history 8 (name_index (codes "Ann")) ≡ []
no_longer_indexed = refl

pub index_gained : gains_at indexed_history 6 (ann_index_part (ops.Set (Uid 1))) ≡ ann_index_part (ops.Set (Uid 1))
index_gained = refl

pub index_lost : gains_at indexed_history 8 (ann_index_part (ops.Del (Uid 1))) ≡ ann_index_part (ops.Del (Uid 1))
index_lost = refl

-- the names themselves stay as they are
pub names_stay : gains_at indexed_history 6 (part name_data []) ≡ part name_data []
names_stay = refl

-- no alter brings a second tablet
pub indexed_tablets : tablets indexed_history ≡ at_rest (codes "name") 1 ∷ []
indexed_tablets = refl

-- without an index a name has one key
pub plain_conflicts_by : keys_at indexed_history 3 (Set (named (codes "Ann")) ∷ []) ≡ name_key ∷ []
plain_conflicts_by = refl

-- ---- addresses: two transactions each make a node that has one

-- asked twice, the changes conflict by the keys of one
pub email_conflicts_by : keys_at emails_history 3 (Set (email 1) ∷ Set (email 1) ∷ []) ≡ email_keys 1
email_conflicts_by = refl

pub other_email_conflicts_by : keys_at emails_history 4 (Set (email 2) ∷ []) ≡ email_keys 2
other_email_conflicts_by = refl

-- the key of the address without a subject is the first that both have
pub emails_conflict : verdict (take 7 emails_history) 4 (codes "email" ∷ []) (email_keys 2) ≡ Some (Conflict (conflicts.Index (codes "email") email_token None) 5)
emails_conflict = refl

pub email_gained : map (gains_at emails_history 5) email_parts ≡ email_parts
email_gained = refl

-- nodes are leased in turn
pub first_email_node : next_uid (take 4 emails_history) ≡ 2
first_email_node = refl

pub second_email_node : next_uid (take 6 emails_history) ≡ 3
second_email_node = refl

-- ---- films: keys of every kind

-- new tablets go in turn to the group with the fewest
pub film_tablets_fresh : fresh 2 [] film_schema ≡ film_tablets
film_tablets_fresh = refl

pub films_conflict_by : keys_at films_history 3 two_films ≡ film_keys
unfolding chars encode_utf8
films_conflict_by = refl

pub films_gained : map (gains_at films_history 4) (director_parts ++ catalogue_parts) ≡ director_parts ++ catalogue_parts
unfolding chars encode_utf8
films_gained = refl

pub no_director_conflicts_by : keys_at films_history 5 (Del (triple 2 (codes "director") (Uid 1)) ∷ []) ≡ no_director_keys
unfolding chars encode_utf8
no_director_conflicts_by = refl

pub no_director_gained : map (gains_at films_history 6) no_director_parts ≡ no_director_parts
unfolding chars encode_utf8
no_director_gained = refl

-- of several predicates the held one is named
pub films_moving : verdict (take 9 films_history) 3 film_preds film_keys ≡ Some (Moving (codes "director"))
films_moving = refl

-- who points to the director, who has one object, and who is pointed to twice and once
pub her_films : listed_at films_history 4 (keys.Reverse (codes "director") 1) ≡ Uid 2 ∷ Uid 3 ∷ []
her_films = refl

pub her_last_film : listed_at films_history 6 (keys.Reverse (codes "director") 1) ≡ Uid 3 ∷ []
her_last_film = refl

pub have_one_director : listed_at films_history 4 (keys.Count (codes "director") 1) ≡ Uid 2 ∷ Uid 3 ∷ []
have_one_director = refl

pub have_two_films : listed_at films_history 4 (keys.RCount (codes "director") 2) ≡ Uid 1 ∷ []
have_two_films = refl

pub have_one_film : listed_at films_history 6 (keys.RCount (codes "director") 1) ≡ Uid 1 ∷ []
have_one_film = refl

pub none_has_two_films : listed_at films_history 6 (keys.RCount (codes "director") 2) ≡ []
none_has_two_films = refl

-- films by three characters of a title, by a genre and by a year
pub films_of_run : listed_at films_history 4 (keys.Index (codes "title") (token tokenizers.Trigram (codes "one"))) ≡ Uid 2 ∷ Uid 3 ∷ []
unfolding chars encode_utf8
films_of_run = refl

pub films_of_drama : listed_at films_history 4 (keys.Index (codes "genre") (token tokenizers.Exact (codes "Drama"))) ≡ Uid 2 ∷ Uid 3 ∷ []
films_of_drama = refl

pub films_of_1993 : listed_at films_history 4 (keys.Index (codes "year") (number_token 1993)) ≡ Uid 2 ∷ []
films_of_1993 = refl

-- the texts of keys that refusals would name
pub rcount_text : conflict_text (conflicts.RCount (codes "director") 1) ≡ codes "rcount director 0x1"
unfolding digits
rcount_text = refl

pub number_token_text : conflict_text (conflicts.Index (codes "year") (number_token 1993) (Some 2)) ≡ codes "index year int 1993 0x2"
unfolding digits
number_token_text = refl

-- six lists of titles are merged: two of films, two of whole titles and two of three characters
pub titles_merged : length (changed_keys films_history (codes "title") 0 4) ≡ 6
titles_merged = refl

pub titles_mark : copy_at (copies films_history) (codes "title") 1 ≡ Some (lasting (codes "title") 1 4)
titles_mark = refl

-- the directors go to group 1, whose copy takes over the mark of theirs
pub film_owners : owners films_history ≡ at_group (codes "director") 1 ∷ at_group (codes "genre") 1 ∷ at_group (codes "name") 1 ∷ at_group (codes "title") 1 ∷ at_group (codes "year") 2 ∷ []
film_owners = refl

pub old_directors : copy_at (copies films_history) (codes "director") 2 ≡ Some (ending (codes "director") 2 0 4)
old_directors = refl

pub new_directors : copy_at (copies films_history) (codes "director") 1 ≡ Some (lasting (codes "director") 1 0)
new_directors = refl

-- three nodes were leased for new names, and nodes named by their numbers take none
pub films_leased : next_uid films_history ≡ 4
films_leased = refl
