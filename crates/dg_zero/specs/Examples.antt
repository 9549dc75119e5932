-- Small histories of two groups, written out whole.
use Rattle.std.specs.Prelude.{ℕ, true, false, pos, List, [], ◌∷◌, ◌++◌, Some, None, map, codes}
use Rattle.dg_values.specs.declared.kind.Kind.TheVariants as kinds
use Rattle.dg_values.specs.declared.kind.Tokenizer.{Tokenizer}
use Rattle.dg_values.specs.declared.kind.Tokenizer.TheVariants as tokenizers
use Rattle.dg_values.specs.declared.value.Posting.{Posting}
use Rattle.dg_values.specs.declared.value.Posting.TheVariants.{Uid, Val}
use Rattle.dg_values.specs.declared.value.Value.TheVariants.{Int, Text}
use Rattle.dg_delta.specs.declared.op.Op.{Op}
use Rattle.dg_delta.specs.declared.op.Op.TheVariants as ops
use Rattle.dg_schema.specs.declared.definition.PredDef.{PredDef}
use Rattle.dg_graph.specs.declared.change.Triple.{Triple}
use Rattle.dg_graph.specs.declared.change.Change.{Change}
use Rattle.dg_graph.specs.declared.change.Change.TheVariants.{Set, Del}
use Rattle.dg_tokens.specs.declared.tokens.IndexToken.{IndexToken}
use Rattle.dg_keys.specs.declared.key.Key.{Key}
use Rattle.dg_keys.specs.declared.key.Key.TheVariants as keys
use Rattle.dg_keys.specs.declared.conflict.ConflictKey.{ConflictKey}
use Rattle.dg_keys.specs.declared.conflict.ConflictKey.TheVariants as conflicts
use Rattle.dg_keys.specs.declared.record.Part.{Part}
use Rattle.dg_keys.specs.declared.record.Record.{Record}
use Rattle.dg_keys.specs.declared.record.Tablet.{Tablet}
use Rattle.dg_zero.specs.declared.entry.Entry.{Entry}
use Rattle.dg_zero.specs.declared.entry.Event.{Event}
use Rattle.dg_zero.specs.declared.entry.Event.TheVariants.{Begin, Commit, Refused, End, Lease, Alter, Line, Rolled, MoveStart, MoveCopied, MoveHold, Flip, MoveOff, Look}
use Rattle.dg_zero.specs.declared.entry.Reason.TheVariants.{Moving, Conflict}
use Rattle.dg_zero.specs.Pasts.{own}

-- ---- words for what histories are made of

-- a text as an object
abbrev pub text : List ℕ → Posting
text bytes = Val (Text bytes)

-- a number as an object
abbrev pub number : ℕ → Posting
number n = Val (Int (pos n))

-- a subject, a predicate and an object
abbrev pub triple : ℕ → List ℕ → Posting → Triple
triple s p o = record { s = s; p = p; o = o }

-- a token of a text
abbrev pub token : Tokenizer → List ℕ → IndexToken
token tokenizer bytes = record { tokenizer = tokenizer; value = Text bytes }

-- the number itself as a token
abbrev pub number_token : ℕ → IndexToken
number_token n = record { tokenizer = tokenizers.Int; value = Int (pos n) }

-- operations on the list of a key
abbrev pub part : Key → List Op → Part
part key list = record { key = key; ops = list }

-- what a commit writes
abbrev pub written : ℕ → List Part → Record
written ts parts = record { ts = ts; fresh = []; parts = parts }

-- a tablet at a group
abbrev pub at_group : List ℕ → ℕ → Tablet
at_group pred group = record { pred = pred; group = group }

-- what an alter without changes of lists writes, at timestamp 2
abbrev pub declared : List Tablet → Record
declared tablets = record { ts = 2; fresh = tablets; parts = [] }

-- ---- friends

-- `friend: [uid] .`
abbrev pub friends : PredDef
friends = record { name = codes "friend"; kind = kinds.Uid; list = true; tokens = []; reverse = false; count = false; upsert = false }

-- `friend: [uid] @count .`
abbrev pub counted_friends : PredDef
counted_friends = record { name = codes "friend"; kind = kinds.Uid; list = true; tokens = []; reverse = false; count = true; upsert = false }

-- `friend: [uid] @reverse @count .`
abbrev pub pointed_friends : PredDef
pointed_friends = record { name = codes "friend"; kind = kinds.Uid; list = true; tokens = []; reverse = true; count = true; upsert = false }

-- `friend: uid @reverse @count .`
abbrev pub best_friend : PredDef
best_friend = record { name = codes "friend"; kind = kinds.Uid; list = false; tokens = []; reverse = true; count = true; upsert = false }

-- node 1 has this friend
abbrev pub friend : ℕ → Triple
friend n = triple 1 (codes "friend") (Uid n)

-- the key by which two transactions conflict that both change it
abbrev pub friend_key : ℕ → ConflictKey
friend_key n = conflicts.Data (codes "friend") 1 (Some (Uid n))

-- the key by which two transactions conflict that both change how many friends node 1 has
abbrev pub count_key : ConflictKey
count_key = conflicts.Count (codes "friend") 1

-- node 1 gets one more friend
abbrev pub friend_part : ℕ → Part
friend_part n = part (keys.Data (codes "friend") 1) (ops.Set (Uid n) ∷ [])

-- two transactions at once give node 1 a friend each, and both commit
abbrev pub friends_history : List Entry
friends_history =
    own (Alter 1 (friends ∷ []) (declared (at_group (codes "friend") 1 ∷ [])))
    ∷ own (Begin 3)
    ∷ own (Begin 4)
    ∷ own (Lease 2 0 3)
    ∷ own (Lease 3 0 4)
    ∷ own (Commit 3 (codes "friend" ∷ []) (friend_key 2 ∷ []) (Set (friend 2) ∷ []) (written 5 (friend_part 2 ∷ [])))
    ∷ own (Commit 4 (codes "friend" ∷ []) (friend_key 3 ∷ []) (Set (friend 3) ∷ []) (written 6 (friend_part 3 ∷ [])))
    ∷ []

-- node 1 gets its first friend, and is counted among the nodes with one
abbrev pub first_friend_parts : List Part
first_friend_parts = friend_part 2 ∷ part (keys.Count (codes "friend") 1) (ops.Set (Uid 1) ∷ []) ∷ []

-- node 1 gets its second friend, and is no longer counted among the nodes with one, but among those with two
abbrev pub second_friend_parts : List Part
second_friend_parts = friend_part 3 ∷ part (keys.Count (codes "friend") 1) (ops.Del (Uid 1) ∷ []) ∷ part (keys.Count (codes "friend") 2) (ops.Set (Uid 1) ∷ []) ∷ []

-- what lists gain where `@reverse` and `@count` are declared over both friends: of each who points to it, of how many friends
-- node 1 has, and of who is pointed to once
abbrev pub pointed_parts : List Part
pointed_parts =
    part (keys.Reverse (codes "friend") 2) (ops.Set (Uid 1) ∷ [])
    ∷ part (keys.Reverse (codes "friend") 3) (ops.Set (Uid 1) ∷ [])
    ∷ part (keys.Count (codes "friend") 2) (ops.Set (Uid 1) ∷ [])
    ∷ part (keys.RCount (codes "friend") 1) (ops.Set (Uid 2) ∷ ops.Set (Uid 3) ∷ [])
    ∷ []

-- after both have committed, `@reverse` and `@count` are declared
abbrev pub pointed_history : List Entry
pointed_history = friends_history ++ own (Alter 7 (pointed_friends ∷ []) (written 8 pointed_parts)) ∷ []

-- where one friend is allowed, friend 3 takes the place of friend 2: node 1 has one friend before and after
abbrev pub other_friend_parts : List Part
other_friend_parts =
    part (keys.Data (codes "friend") 1) (ops.Del (Uid 2) ∷ ops.Set (Uid 3) ∷ [])
    ∷ part (keys.Reverse (codes "friend") 2) (ops.Del (Uid 1) ∷ [])
    ∷ part (keys.Reverse (codes "friend") 3) (ops.Set (Uid 1) ∷ [])
    ∷ part (keys.RCount (codes "friend") 1) (ops.Del (Uid 2) ∷ ops.Set (Uid 3) ∷ [])
    ∷ []

-- the keys by which that conflicts: of the node that is pointed to no more too
abbrev pub other_friend_keys : List ConflictKey
other_friend_keys = conflicts.Data (codes "friend") 1 None ∷ count_key ∷ conflicts.RCount (codes "friend") 2 ∷ conflicts.RCount (codes "friend") 3 ∷ []

-- the same where friends are counted: the second is refused, and commits when it tries again
abbrev pub counted_history : List Entry
counted_history =
    own (Alter 1 (counted_friends ∷ []) (declared (at_group (codes "friend") 1 ∷ [])))
    ∷ own (Begin 3)
    ∷ own (Begin 4)
    ∷ own (Lease 2 0 3)
    ∷ own (Lease 3 0 4)
    ∷ own (Commit 3 (codes "friend" ∷ []) (friend_key 2 ∷ count_key ∷ []) (Set (friend 2) ∷ []) (written 5 first_friend_parts))
    ∷ own (Refused 4 (Conflict count_key 5))
    ∷ own (Begin 6)
    ∷ own (Lease 3 0 4)
    ∷ own (Commit 6 (codes "friend" ∷ []) (friend_key 3 ∷ count_key ∷ []) (Set (friend 3) ∷ []) (written 7 second_friend_parts))
    ∷ []

-- ---- tags

-- `tag: [string] @index(trigram) .`
abbrev pub tags : PredDef
tags = record { name = codes "tag"; kind = kinds.Text; list = true; tokens = tokenizers.Trigram ∷ []; reverse = false; count = false; upsert = false }

-- node 1 has this tag
abbrev pub tag : List ℕ → Triple
tag bytes = triple 1 (codes "tag") (text bytes)

-- the key by which two transactions conflict that both change it
abbrev pub tag_key : List ℕ → ConflictKey
tag_key bytes = conflicts.Data (codes "tag") 1 (Some (text bytes))

-- the key by which two transactions conflict that both change tags of node 1 with these three characters
abbrev pub run_key : List ℕ → ConflictKey
run_key run = conflicts.Index (codes "tag") (token tokenizers.Trigram run) (Some 1)

-- the key of the nodes with a tag that has these three characters
abbrev pub run_index : List ℕ → Key
run_index run = keys.Index (codes "tag") (token tokenizers.Trigram run)

-- two tags of node 1, abcd and bcde, with three characters in common
abbrev pub two_tags_parts : List Part
two_tags_parts =
    part (keys.Data (codes "tag") 1) (ops.Set (text (codes "abcd")) ∷ ops.Set (text (codes "bcde")) ∷ [])
    ∷ part (run_index (codes "abc")) (ops.Set (Uid 1) ∷ [])
    ∷ part (run_index (codes "bcd")) (ops.Set (Uid 1) ∷ [])
    ∷ part (run_index (codes "cde")) (ops.Set (Uid 1) ∷ [])
    ∷ []

-- the keys by which both tags conflict
abbrev pub two_tags_keys : List ConflictKey
two_tags_keys = tag_key (codes "abcd") ∷ tag_key (codes "bcde") ∷ run_key (codes "abc") ∷ run_key (codes "bcd") ∷ run_key (codes "cde") ∷ []

-- the second tag goes: what it has in common stays by the first
abbrev pub one_tag_parts : List Part
one_tag_parts = part (keys.Data (codes "tag") 1) (ops.Del (text (codes "bcde")) ∷ []) ∷ part (run_index (codes "cde")) (ops.Del (Uid 1) ∷ []) ∷ []

-- the keys by which the first tag alone conflicts
abbrev pub first_tag_keys : List ConflictKey
first_tag_keys = tag_key (codes "abcd") ∷ run_key (codes "abc") ∷ run_key (codes "bcd") ∷ []

-- and the second
abbrev pub second_tag_keys : List ConflictKey
second_tag_keys = tag_key (codes "bcde") ∷ run_key (codes "bcd") ∷ run_key (codes "cde") ∷ []

-- of two transactions that each delete one of the tags the second is refused: it would have to empty the list of what they have in common
abbrev pub tags_history : List Entry
tags_history =
    own (Alter 1 (tags ∷ []) (declared (at_group (codes "tag") 1 ∷ [])))
    ∷ own (Begin 3)
    ∷ own (Lease 1 0 2)
    ∷ own (Commit 3 (codes "tag" ∷ []) two_tags_keys (Set (tag (codes "bcde")) ∷ Set (tag (codes "abcd")) ∷ []) (written 4 two_tags_parts))
    ∷ own (Begin 5)
    ∷ own (Begin 6)
    ∷ own (Lease 1 0 2)
    ∷ own (Lease 1 0 2)
    ∷ own (Commit 5 (codes "tag" ∷ []) second_tag_keys (Del (tag (codes "bcde")) ∷ []) (written 7 one_tag_parts))
    ∷ own (Refused 6 (Conflict (run_key (codes "bcd")) 7))
    ∷ []

-- ---- names

-- `name: string @index(exact) .`
abbrev pub names : PredDef
names = record { name = codes "name"; kind = kinds.Text; list = false; tokens = tokenizers.Exact ∷ []; reverse = false; count = false; upsert = false }

-- node 1 has this name
abbrev pub named : List ℕ → Triple
named bytes = triple 1 (codes "name") (text bytes)

-- the key of the names of node 1
abbrev pub name_data : Key
name_data = keys.Data (codes "name") 1

-- the key of the nodes with this name
abbrev pub name_index : List ℕ → Key
name_index bytes = keys.Index (codes "name") (token tokenizers.Exact bytes)

-- the key by which two transactions conflict that both name node 1
abbrev pub name_key : ConflictKey
name_key = conflicts.Data (codes "name") 1 None

-- the key by which two transactions conflict that both give or take this name of node 1
abbrev pub named_key : List ℕ → ConflictKey
named_key bytes = conflicts.Index (codes "name") (token tokenizers.Exact bytes) (Some 1)

-- node 1 is named Ann
abbrev pub ann_parts : List Part
ann_parts = part name_data (ops.Set (text (codes "Ann")) ∷ []) ∷ part (name_index (codes "Ann")) (ops.Set (Uid 1) ∷ []) ∷ []

-- Bob takes the place of Ann
abbrev pub bob_parts : List Part
bob_parts =
    part name_data (ops.Del (text (codes "Ann")) ∷ ops.Set (text (codes "Bob")) ∷ [])
    ∷ part (name_index (codes "Ann")) (ops.Del (Uid 1) ∷ [])
    ∷ part (name_index (codes "Bob")) (ops.Set (Uid 1) ∷ [])
    ∷ []

-- the keys by which naming a node without a name conflicts
abbrev pub ann_keys : List ConflictKey
ann_keys = name_key ∷ named_key (codes "Ann") ∷ []

-- and naming Ann anew: the old name's token too
abbrev pub bob_keys : List ConflictKey
bob_keys = name_key ∷ named_key (codes "Ann") ∷ named_key (codes "Bob") ∷ []

-- what an alter of names writes: a tablet at group 1
abbrev pub names_declared : Record
names_declared = declared (at_group (codes "name") 1 ∷ [])

-- node 1 is named Ann at this timestamp, by the transaction that began at this start
abbrev pub ann_commit : ℕ → ℕ → Event
ann_commit start ts = Commit start (codes "name" ∷ []) ann_keys (Set (named (codes "Ann")) ∷ []) (written ts ann_parts)

-- and Bob
abbrev pub bob_commit : ℕ → ℕ → Event
bob_commit start ts = Commit start (codes "name" ∷ []) bob_keys (Set (named (codes "Bob")) ∷ []) (written ts bob_parts)

-- names are declared, and node 1 is named Ann
abbrev pub ann_history : List Entry
ann_history = own (Alter 1 (names ∷ []) names_declared) ∷ own (Begin 3) ∷ own (Lease 1 0 2) ∷ own (ann_commit 3 4) ∷ []

-- a copy is merged up to a line below an active start while a commit comes above it, and then up to a later line, twice
abbrev pub rolled_history : List Entry
rolled_history =
    ann_history
    ++ own (Begin 5)
    ∷ own (Line 4)
    ∷ own (Begin 6)
    ∷ own (Lease 1 0 2)
    ∷ own (bob_commit 6 7)
    ∷ own (Rolled (codes "name") 1 4)
    ∷ own Look
    ∷ own (End 5)
    ∷ own (Line 7)
    ∷ own (Rolled (codes "name") 1 7)
    ∷ own (Line 7)
    ∷ own (Rolled (codes "name") 1 7)
    ∷ []

-- a tablet goes to group 2 while transactions are active. One that commits while it is held is refused, and one that began
-- before keeps the old copy until it ends; then the tablet may go back
abbrev pub moved_history : List Entry
moved_history =
    ann_history
    ++ own (Begin 5)
    ∷ own (MoveStart (codes "name") 2)
    ∷ own (MoveCopied (codes "name"))
    ∷ own (MoveHold (codes "name"))
    ∷ own (Begin 6)
    ∷ own (Lease 1 0 2)
    ∷ own (Refused 6 (Moving (codes "name")))
    ∷ own (Flip (codes "name") 6)
    ∷ own (Begin 7)
    ∷ own Look
    ∷ own (Line 4)
    ∷ own Look
    ∷ own (End 5)
    ∷ own (Line 6)
    ∷ own (MoveStart (codes "name") 1)
    ∷ []

-- a move that is called off after the image was given: the new group's copy goes, and commits go through
abbrev pub called_off_history : List Entry
called_off_history =
    ann_history
    ++ own (MoveStart (codes "name") 2)
    ∷ own (MoveCopied (codes "name"))
    ∷ own (MoveOff (codes "name"))
    ∷ own (Begin 5)
    ∷ own (Lease 1 0 2)
    ∷ own (bob_commit 5 6)
    ∷ []

-- a move that is called off while the tablet is held
abbrev pub released_history : List Entry
released_history =
    ann_history
    ++ own (MoveStart (codes "name") 2)
    ∷ own (MoveCopied (codes "name"))
    ∷ own (MoveHold (codes "name"))
    ∷ own (MoveOff (codes "name"))
    ∷ own (Begin 5)
    ∷ own (Lease 1 0 2)
    ∷ own (bob_commit 5 6)
    ∷ []

-- a commit between the image and the hold goes through, and the new group brings it in from the stream of records
abbrev pub late_history : List Entry
late_history =
    ann_history
    ++ own (MoveStart (codes "name") 2)
    ∷ own (MoveCopied (codes "name"))
    ∷ own (Begin 5)
    ∷ own (Lease 1 0 2)
    ∷ own (bob_commit 5 6)
    ∷ own (MoveHold (codes "name"))
    ∷ own (Flip (codes "name") 6)
    ∷ own (Begin 7)
    ∷ []

-- work that was planned before a move is installed at the old copy after it, and the new owner's copy is merged by itself
abbrev pub old_copy_history : List Entry
old_copy_history =
    ann_history
    ++ own (Begin 5)
    ∷ own (Line 4)
    ∷ own (MoveStart (codes "name") 2)
    ∷ own (MoveCopied (codes "name"))
    ∷ own (MoveHold (codes "name"))
    ∷ own (Flip (codes "name") 5)
    ∷ own (Rolled (codes "name") 1 4)
    ∷ own (Line 4)
    ∷ own (Rolled (codes "name") 2 4)
    ∷ []

-- the owner's copy is merged while its image is at the new group; the line then lets the old copy go
abbrev pub merged_image_history : List Entry
merged_image_history =
    ann_history
    ++ own (MoveStart (codes "name") 2)
    ∷ own (MoveCopied (codes "name"))
    ∷ own (Line 4)
    ∷ own (Rolled (codes "name") 1 4)
    ∷ own (MoveHold (codes "name"))
    ∷ own (Flip (codes "name") 4)
    ∷ own (Line 4)
    ∷ own (Rolled (codes "name") 2 4)
    ∷ []

-- `name: string .`
abbrev pub plain_names : PredDef
plain_names = record { name = codes "name"; kind = kinds.Text; list = false; tokens = []; reverse = false; count = false; upsert = false }

-- node 1 comes among the nodes named Ann, or goes
abbrev pub ann_index_part : Op → Part
ann_index_part op = part (name_index (codes "Ann")) (op ∷ [])

-- an index is declared over names that are there, and taken back
abbrev pub indexed_history : List Entry
indexed_history =
    own (Alter 1 (plain_names ∷ []) names_declared)
    ∷ own (Begin 3)
    ∷ own (Lease 1 0 2)
    ∷ own (Commit 3 (codes "name" ∷ []) (name_key ∷ []) (Set (named (codes "Ann")) ∷ []) (written 4 (part name_data (ops.Set (text (codes "Ann")) ∷ []) ∷ [])))
    ∷ own (Alter 5 (names ∷ []) (written 6 (ann_index_part (ops.Set (Uid 1)) ∷ [])))
    ∷ own (Alter 7 (plain_names ∷ []) (written 8 (ann_index_part (ops.Del (Uid 1)) ∷ [])))
    ∷ []

-- ---- addresses

-- `email: string @index(exact) @upsert .`
abbrev pub emails : PredDef
emails = record { name = codes "email"; kind = kinds.Text; list = false; tokens = tokenizers.Exact ∷ []; reverse = false; count = false; upsert = true }

-- the node has the address a@x
abbrev pub email : ℕ → Triple
email s = triple s (codes "email") (text (codes "a@x"))

-- the key of the address, of one node or of all
abbrev pub email_token : IndexToken
email_token = token tokenizers.Exact (codes "a@x")

-- the keys by which two transactions conflict that give the address to this node, and to any
abbrev pub email_keys : ℕ → List ConflictKey
email_keys s = conflicts.Data (codes "email") s None ∷ conflicts.Index (codes "email") email_token None ∷ conflicts.Index (codes "email") email_token (Some s) ∷ []

-- node 1 has the address
abbrev pub email_parts : List Part
email_parts = part (keys.Data (codes "email") 1) (ops.Set (text (codes "a@x")) ∷ []) ∷ part (keys.Index (codes "email") email_token) (ops.Set (Uid 1) ∷ []) ∷ []

-- two transactions each find nobody with an address and make a node that has it; the first asks twice, and the second is refused
abbrev pub emails_history : List Entry
emails_history =
    own (Alter 1 (emails ∷ []) (declared (at_group (codes "email") 1 ∷ [])))
    ∷ own (Begin 3)
    ∷ own (Begin 4)
    ∷ own (Lease 0 1 1)
    ∷ own (Lease 1 0 2)
    ∷ own (Lease 0 1 2)
    ∷ own (Commit 3 (codes "email" ∷ []) (email_keys 1) (Set (email 1) ∷ Set (email 1) ∷ []) (written 5 email_parts))
    ∷ own (Refused 4 (Conflict (conflicts.Index (codes "email") email_token None) 5))
    ∷ []

-- ---- films

-- `title: string @index(exact, trigram) .`
abbrev pub titles : PredDef
titles = record { name = codes "title"; kind = kinds.Text; list = false; tokens = tokenizers.Exact ∷ tokenizers.Trigram ∷ []; reverse = false; count = false; upsert = false }

-- `year: int @index(int) .`
abbrev pub years : PredDef
years = record { name = codes "year"; kind = kinds.Int; list = false; tokens = tokenizers.Int ∷ []; reverse = false; count = false; upsert = false }

-- `genre: [string] @index(exact) .`
abbrev pub genres : PredDef
genres = record { name = codes "genre"; kind = kinds.Text; list = true; tokens = tokenizers.Exact ∷ []; reverse = false; count = false; upsert = false }

-- `director: [uid] @reverse @count .`
abbrev pub directors : PredDef
directors = record { name = codes "director"; kind = kinds.Uid; list = true; tokens = []; reverse = true; count = true; upsert = false }

-- the catalogue's definitions, of which the odd ones go to group 1 and the even ones to group 2
abbrev pub film_schema : List PredDef
film_schema = titles ∷ years ∷ genres ∷ directors ∷ names ∷ []

-- their tablets
abbrev pub film_tablets : List Tablet
film_tablets = at_group (codes "title") 1 ∷ at_group (codes "year") 2 ∷ at_group (codes "genre") 1 ∷ at_group (codes "director") 2 ∷ at_group (codes "name") 1 ∷ []

-- two films, 2 and 3, of one director, 1
abbrev pub two_films : List Change
two_films =
    Set (named (codes "Jane"))
    ∷ Set (triple 2 (codes "title") (text (codes "one")))
    ∷ Set (triple 2 (codes "year") (number 1993))
    ∷ Set (triple 2 (codes "genre") (text (codes "Drama")))
    ∷ Set (triple 2 (codes "director") (Uid 1))
    ∷ Set (triple 3 (codes "title") (text (codes "zone")))
    ∷ Set (triple 3 (codes "year") (number 2021))
    ∷ Set (triple 3 (codes "genre") (text (codes "Western")))
    ∷ Set (triple 3 (codes "genre") (text (codes "Drama")))
    ∷ Set (triple 3 (codes "director") (Uid 1))
    ∷ []

-- the key by which two transactions conflict that both give or take this token of a node
abbrev pub token_key : List ℕ → Tokenizer → List ℕ → ℕ → ConflictKey
token_key pred tokenizer bytes s = conflicts.Index pred (token tokenizer bytes) (Some s)

-- the keys by which the two films conflict: of subjects and objects, of tokens, and of how many point and are pointed to
abbrev pub film_keys : List ConflictKey
film_keys =
    conflicts.Data (codes "director") 2 (Some (Uid 1))
    ∷ conflicts.Data (codes "director") 3 (Some (Uid 1))
    ∷ conflicts.Data (codes "genre") 2 (Some (text (codes "Drama")))
    ∷ conflicts.Data (codes "genre") 3 (Some (text (codes "Drama")))
    ∷ conflicts.Data (codes "genre") 3 (Some (text (codes "Western")))
    ∷ conflicts.Data (codes "name") 1 None
    ∷ conflicts.Data (codes "title") 2 None
    ∷ conflicts.Data (codes "title") 3 None
    ∷ conflicts.Data (codes "year") 2 None
    ∷ conflicts.Data (codes "year") 3 None
    ∷ token_key (codes "genre") tokenizers.Exact (codes "Drama") 2
    ∷ token_key (codes "genre") tokenizers.Exact (codes "Drama") 3
    ∷ token_key (codes "genre") tokenizers.Exact (codes "Western") 3
    ∷ token_key (codes "name") tokenizers.Exact (codes "Jane") 1
    ∷ token_key (codes "title") tokenizers.Exact (codes "one") 2
    ∷ token_key (codes "title") tokenizers.Exact (codes "zone") 3
    ∷ token_key (codes "title") tokenizers.Trigram (codes "one") 2
    ∷ token_key (codes "title") tokenizers.Trigram (codes "one") 3
    ∷ token_key (codes "title") tokenizers.Trigram (codes "zon") 3
    ∷ conflicts.Index (codes "year") (number_token 1993) (Some 2)
    ∷ conflicts.Index (codes "year") (number_token 2021) (Some 3)
    ∷ conflicts.Count (codes "director") 2
    ∷ conflicts.Count (codes "director") 3
    ∷ conflicts.RCount (codes "director") 1
    ∷ []

-- nodes are put into the list of a key
abbrev pub gains_nodes : Key → List ℕ → Part
gains_nodes key nodes = part key (map (λ n. ops.Set (Uid n)) nodes)

-- what the two films make of the lists of directors: of the films' own, of who points to the director, of who has one object and
-- of who is pointed to twice
abbrev pub director_parts : List Part
director_parts =
    gains_nodes (keys.Data (codes "director") 2) (1 ∷ [])
    ∷ gains_nodes (keys.Data (codes "director") 3) (1 ∷ [])
    ∷ gains_nodes (keys.Reverse (codes "director") 1) (2 ∷ 3 ∷ [])
    ∷ gains_nodes (keys.Count (codes "director") 1) (2 ∷ 3 ∷ [])
    ∷ gains_nodes (keys.RCount (codes "director") 2) (1 ∷ [])
    ∷ []

-- a text is put into the list of a key
abbrev pub gains_text : Key → List ℕ → Part
gains_text key bytes = part key (ops.Set (text bytes) ∷ [])

-- and of the lists of genres, names, titles and years
abbrev pub catalogue_parts : List Part
catalogue_parts =
    gains_text (keys.Data (codes "genre") 2) (codes "Drama")
    ∷ part (keys.Data (codes "genre") 3) (ops.Set (text (codes "Drama")) ∷ ops.Set (text (codes "Western")) ∷ [])
    ∷ gains_nodes (keys.Index (codes "genre") (token tokenizers.Exact (codes "Drama"))) (2 ∷ 3 ∷ [])
    ∷ gains_nodes (keys.Index (codes "genre") (token tokenizers.Exact (codes "Western"))) (3 ∷ [])
    ∷ gains_text (keys.Data (codes "name") 1) (codes "Jane")
    ∷ gains_nodes (keys.Index (codes "name") (token tokenizers.Exact (codes "Jane"))) (1 ∷ [])
    ∷ gains_text (keys.Data (codes "title") 2) (codes "one")
    ∷ gains_text (keys.Data (codes "title") 3) (codes "zone")
    ∷ gains_nodes (keys.Index (codes "title") (token tokenizers.Exact (codes "one"))) (2 ∷ [])
    ∷ gains_nodes (keys.Index (codes "title") (token tokenizers.Exact (codes "zone"))) (3 ∷ [])
    ∷ gains_nodes (keys.Index (codes "title") (token tokenizers.Trigram (codes "one"))) (2 ∷ 3 ∷ [])
    ∷ gains_nodes (keys.Index (codes "title") (token tokenizers.Trigram (codes "zon"))) (3 ∷ [])
    ∷ part (keys.Data (codes "year") 2) (ops.Set (number 1993) ∷ [])
    ∷ part (keys.Data (codes "year") 3) (ops.Set (number 2021) ∷ [])
    ∷ gains_nodes (keys.Index (codes "year") (number_token 1993)) (2 ∷ [])
    ∷ gains_nodes (keys.Index (codes "year") (number_token 2021)) (3 ∷ [])
    ∷ []

-- the predicates of the films
abbrev pub film_preds : List (List ℕ)
film_preds = codes "director" ∷ codes "genre" ∷ codes "name" ∷ codes "title" ∷ codes "year" ∷ []

-- film 2 has its director no more: the director is pointed to once, and the film isn't among those with a director
abbrev pub no_director_parts : List Part
no_director_parts =
    part (keys.Data (codes "director") 2) (ops.Del (Uid 1) ∷ [])
    ∷ part (keys.Reverse (codes "director") 1) (ops.Del (Uid 2) ∷ [])
    ∷ part (keys.Count (codes "director") 1) (ops.Del (Uid 2) ∷ [])
    ∷ part (keys.RCount (codes "director") 1) (ops.Set (Uid 1) ∷ [])
    ∷ part (keys.RCount (codes "director") 2) (ops.Del (Uid 1) ∷ [])
    ∷ []

-- the keys by which that conflicts
abbrev pub no_director_keys : List ConflictKey
no_director_keys = conflicts.Data (codes "director") 2 (Some (Uid 1)) ∷ conflicts.Count (codes "director") 2 ∷ conflicts.RCount (codes "director") 1 ∷ []

-- a catalogue of films is filled, the titles are merged, the directors go to group 1, and one film loses its director
abbrev pub films_history : List Entry
films_history =
    own (Alter 1 film_schema (declared film_tablets))
    ∷ own (Begin 3)
    ∷ own (Lease 0 3 1)
    ∷ own (Commit 3 film_preds film_keys two_films (written 4 (director_parts ++ catalogue_parts)))
    ∷ own (Line 4)
    ∷ own (Rolled (codes "title") 1 4)
    ∷ own (MoveStart (codes "director") 1)
    ∷ own (MoveCopied (codes "director"))
    ∷ own (MoveHold (codes "director"))
    ∷ own (Flip (codes "director") 4)
    ∷ own (Begin 5)
    ∷ own (Lease 2 0 4)
    ∷ own (Commit 5 (codes "director" ∷ []) no_director_keys (Del (triple 2 (codes "director") (Uid 1)) ∷ []) (written 6 no_director_parts))
    ∷ []
