-- The small histories are legal, each entry by what it says of those before it.
use Rattle.std.proofs.Common.{◌≡◌, ℕ, ◌<◌, ◌≤◌, ◌^◌, true, List, [], ◌∷◌, ◌++◌, refl, sym, subst, arith, nat_lt, nat_le, codes, drop, append_assoc}
use Rattle.std.proofs.lemmas.Grind.{common_steps}
use Rattle.std.proofs.lemmas.List.{append-nil}
use Rattle.std.specs.Char.{encode_utf8}
use Rattle.std.specs.Str.{chars}
use Rattle.dg_values.specs.declared.value.Posting.TheVariants.{Uid}
use Rattle.dg_delta.specs.declared.op.Op.TheVariants as ops
use Rattle.dg_graph.specs.declared.change.Triple.{Triple}
use Rattle.dg_zero.specs.declared.entry.Entry.{Entry}
use Rattle.dg_zero.specs.Legal.{IsLegalAfter, IsLegal}
use Rattle.dg_zero.specs.Listings.{AreGainsAndLosses}
use Rattle.dg_zero.specs.Offers.{IsSound}
use Rattle.dg_zero.proofs.EmptyOffers.{first_parts}
use Rattle.dg_zero.proofs.SoundByTests.{are_gains, passes_sound}
use Rattle.dg_zero.specs.Examples.{text, number, triple, part, friends, counted_friends, friend, friend_key, count_key, friend_part, friends_history, pointed_friends, pointed_parts, pointed_history, best_friend, other_friend_keys, other_friend_parts, first_friend_parts, second_friend_parts, counted_history, tags, tag, two_tags_keys, two_tags_parts, one_tag_parts, second_tag_keys, tags_history, names, named, name_data, name_key, ann_keys, bob_keys, ann_parts, bob_parts, ann_history, rolled_history, moved_history, called_off_history, released_history, late_history, old_copy_history, merged_image_history, plain_names, ann_index_part, indexed_history, emails, email, email_keys, email_parts, emails_history, film_schema, film_preds, film_keys, director_parts, catalogue_parts, no_director_keys, no_director_parts, films_history}

-- numbers that a test compares
below : (a b : ℕ) → nat_lt a b ≡ true → a < b
below a b e = grind (arith, common_steps)

up_to : (a b : ℕ) → nat_le a b ≡ true → a ≤ b
up_to a b e = grind (arith, common_steps)

-- the catalogue, by predicate, subject and object
abbrev film_graph : List Triple
film_graph =
    triple 2 (codes "director") (Uid 1)
    ∷ triple 3 (codes "director") (Uid 1)
    ∷ triple 2 (codes "genre") (text (codes "Drama"))
    ∷ triple 3 (codes "genre") (text (codes "Drama"))
    ∷ triple 3 (codes "genre") (text (codes "Western"))
    ∷ named (codes "Jane")
    ∷ triple 2 (codes "title") (text (codes "one"))
    ∷ triple 3 (codes "title") (text (codes "zone"))
    ∷ triple 2 (codes "year") (number 1993)
    ∷ triple 3 (codes "year") (number 2021)
    ∷ []

-- ---- offers that are sound

-- the first friend
first_friend_sound : IsSound (friends ∷ []) [] (codes "friend" ∷ []) (friend_key 2 ∷ []) (friend_part 2 ∷ [])
first_friend_sound = passes_sound (friends ∷ []) [] (codes "friend") [] (friend_key 2 ∷ []) (friend_part 2 ∷ []) (friend 2 ∷ []) (record { parts_ascend = refl; ops_ascend = refl; some = refl }) (record { leads = refl; triples = refl; fit = refl; single = refl; right = refl; ascend = refl; keys_named = refl; preds_named = refl })

-- the second, over the graph without the first
second_friend_sound : IsSound (friends ∷ []) [] (codes "friend" ∷ []) (friend_key 3 ∷ []) (friend_part 3 ∷ [])
second_friend_sound = passes_sound (friends ∷ []) [] (codes "friend") [] (friend_key 3 ∷ []) (friend_part 3 ∷ []) (friend 3 ∷ []) (record { parts_ascend = refl; ops_ascend = refl; some = refl }) (record { leads = refl; triples = refl; fit = refl; single = refl; right = refl; ascend = refl; keys_named = refl; preds_named = refl })

-- the first friend where friends are counted
first_counted_sound : IsSound (counted_friends ∷ []) [] (codes "friend" ∷ []) (friend_key 2 ∷ count_key ∷ []) first_friend_parts
first_counted_sound = passes_sound (counted_friends ∷ []) [] (codes "friend") [] (friend_key 2 ∷ count_key ∷ []) first_friend_parts (friend 2 ∷ []) (record { parts_ascend = refl; ops_ascend = refl; some = refl }) (record { leads = refl; triples = refl; fit = refl; single = refl; right = refl; ascend = refl; keys_named = refl; preds_named = refl })

-- the second
second_counted_sound : IsSound (counted_friends ∷ []) (friend 2 ∷ []) (codes "friend" ∷ []) (friend_key 3 ∷ count_key ∷ []) second_friend_parts
second_counted_sound = passes_sound (counted_friends ∷ []) (friend 2 ∷ []) (codes "friend") [] (friend_key 3 ∷ count_key ∷ []) second_friend_parts (friend 2 ∷ friend 3 ∷ []) (record { parts_ascend = refl; ops_ascend = refl; some = refl }) (record { leads = refl; triples = refl; fit = refl; single = refl; right = refl; ascend = refl; keys_named = refl; preds_named = refl })

-- `@reverse` and `@count` that are declared over two friends
pointed_are : AreGainsAndLosses (friends ∷ []) (friend 2 ∷ friend 3 ∷ []) (pointed_friends ∷ []) (friend 2 ∷ friend 3 ∷ []) pointed_parts
pointed_are = are_gains (friends ∷ []) (friend 2 ∷ friend 3 ∷ []) (pointed_friends ∷ []) (friend 2 ∷ friend 3 ∷ []) pointed_parts (record { parts_ascend = refl; ops_ascend = refl; some = refl }) refl

-- a friend that takes the place of another, where one is allowed
pub other_friend_sound : IsSound (best_friend ∷ []) (friend 2 ∷ []) (codes "friend" ∷ []) other_friend_keys other_friend_parts
other_friend_sound = passes_sound (best_friend ∷ []) (friend 2 ∷ []) (codes "friend") [] other_friend_keys other_friend_parts (friend 3 ∷ []) (record { parts_ascend = refl; ops_ascend = refl; some = refl }) (record { leads = refl; triples = refl; fit = refl; single = refl; right = refl; ascend = refl; keys_named = refl; preds_named = refl })

-- the first name
ann_sound : IsSound (names ∷ []) [] (codes "name" ∷ []) ann_keys ann_parts
ann_sound = passes_sound (names ∷ []) [] (codes "name") [] ann_keys ann_parts (named (codes "Ann") ∷ []) (record { parts_ascend = refl; ops_ascend = refl; some = refl }) (record { leads = refl; triples = refl; fit = refl; single = refl; right = refl; ascend = refl; keys_named = refl; preds_named = refl })

-- one that takes its place
bob_sound : IsSound (names ∷ []) (named (codes "Ann") ∷ []) (codes "name" ∷ []) bob_keys bob_parts
bob_sound = passes_sound (names ∷ []) (named (codes "Ann") ∷ []) (codes "name") [] bob_keys bob_parts (named (codes "Bob") ∷ []) (record { parts_ascend = refl; ops_ascend = refl; some = refl }) (record { leads = refl; triples = refl; fit = refl; single = refl; right = refl; ascend = refl; keys_named = refl; preds_named = refl })

-- a name without an index
plain_ann_sound : IsSound (plain_names ∷ []) [] (codes "name" ∷ []) (name_key ∷ []) (part name_data (ops.Set (text (codes "Ann")) ∷ []) ∷ [])
plain_ann_sound = passes_sound (plain_names ∷ []) [] (codes "name") [] (name_key ∷ []) (part name_data (ops.Set (text (codes "Ann")) ∷ []) ∷ []) (named (codes "Ann") ∷ []) (record { parts_ascend = refl; ops_ascend = refl; some = refl }) (record { leads = refl; triples = refl; fit = refl; single = refl; right = refl; ascend = refl; keys_named = refl; preds_named = refl })

-- an index that is declared over a name
index_parts : AreGainsAndLosses (plain_names ∷ []) (named (codes "Ann") ∷ []) (names ∷ []) (named (codes "Ann") ∷ []) (ann_index_part (ops.Set (Uid 1)) ∷ [])
index_parts = are_gains (plain_names ∷ []) (named (codes "Ann") ∷ []) (names ∷ []) (named (codes "Ann") ∷ []) (ann_index_part (ops.Set (Uid 1)) ∷ []) (record { parts_ascend = refl; ops_ascend = refl; some = refl }) refl

-- and taken back
no_index_parts : AreGainsAndLosses (names ∷ []) (named (codes "Ann") ∷ []) (plain_names ∷ []) (named (codes "Ann") ∷ []) (ann_index_part (ops.Del (Uid 1)) ∷ [])
no_index_parts = are_gains (names ∷ []) (named (codes "Ann") ∷ []) (plain_names ∷ []) (named (codes "Ann") ∷ []) (ann_index_part (ops.Del (Uid 1)) ∷ []) (record { parts_ascend = refl; ops_ascend = refl; some = refl }) refl

-- an address
email_sound : IsSound (emails ∷ []) [] (codes "email" ∷ []) (email_keys 1) email_parts
email_sound = passes_sound (emails ∷ []) [] (codes "email") [] (email_keys 1) email_parts (email 1 ∷ []) (record { parts_ascend = refl; ops_ascend = refl; some = refl }) (record { leads = refl; triples = refl; fit = refl; single = refl; right = refl; ascend = refl; keys_named = refl; preds_named = refl })

-- two tags
two_tags_sound : IsSound (tags ∷ []) [] (codes "tag" ∷ []) two_tags_keys two_tags_parts
unfolding chars encode_utf8
two_tags_sound = passes_sound (tags ∷ []) [] (codes "tag") [] two_tags_keys two_tags_parts (tag (codes "abcd") ∷ tag (codes "bcde") ∷ []) (record { parts_ascend = refl; ops_ascend = refl; some = refl }) (record { leads = refl; triples = refl; fit = refl; single = refl; right = refl; ascend = refl; keys_named = refl; preds_named = refl })

-- a tag that goes
one_tag_sound : IsSound (tags ∷ []) (tag (codes "abcd") ∷ tag (codes "bcde") ∷ []) (codes "tag" ∷ []) second_tag_keys one_tag_parts
unfolding chars encode_utf8
one_tag_sound = passes_sound (tags ∷ []) (tag (codes "abcd") ∷ tag (codes "bcde") ∷ []) (codes "tag") [] second_tag_keys one_tag_parts (tag (codes "abcd") ∷ []) (record { parts_ascend = refl; ops_ascend = refl; some = refl }) (record { leads = refl; triples = refl; fit = refl; single = refl; right = refl; ascend = refl; keys_named = refl; preds_named = refl })

-- the films
films_sound : IsSound film_schema [] film_preds film_keys (director_parts ++ catalogue_parts)
unfolding chars encode_utf8
films_sound = passes_sound film_schema [] (codes "director") (codes "genre" ∷ codes "name" ∷ codes "title" ∷ codes "year" ∷ []) film_keys (director_parts ++ catalogue_parts) film_graph (record { parts_ascend = refl; ops_ascend = refl; some = refl }) (record { leads = refl; triples = refl; fit = refl; single = refl; right = refl; ascend = refl; keys_named = refl; preds_named = refl })

-- a director that goes
no_director_sound : IsSound film_schema film_graph (codes "director" ∷ []) no_director_keys no_director_parts
unfolding chars encode_utf8
no_director_sound = passes_sound film_schema film_graph (codes "director") [] no_director_keys no_director_parts (drop 1 film_graph) (record { parts_ascend = refl; ops_ascend = refl; some = refl }) (record { leads = refl; triples = refl; fit = refl; single = refl; right = refl; ascend = refl; keys_named = refl; preds_named = refl })

-- ---- histories that are legal

infixr 5 ◌&◌
-- an entry fits, and those after it do
◌&◌ : {A B : Type 0} → A → B → A × B
a & b = (a, b)

-- entries that fit, and more after them
joined : (n : ℕ) (before entries more : List Entry) → IsLegalAfter n before entries → IsLegalAfter n (before ++ entries) more → IsLegalAfter n before (entries ++ more)
joined n before [] more a b = subst (λ (h : List Entry). IsLegalAfter n h more) (append-nil before) b
joined n before (e ∷ entries) more a b = (a.0, joined n (before ++ e ∷ []) entries more a.1 (subst (λ (h : List Entry). IsLegalAfter n h more) (sym (append_assoc before (e ∷ []) entries)) b))

pub friends_legal : IsLegal 2 friends_history
friends_legal =
    (refl, record { start_is = refl; ts = refl; drawn = below 2 (2 ^ 62) refl; none_active = refl; distinct = (tt, tt); none_held = (refl, tt); kinds = (tt, tt); fresh_are = refl; parts_are = first_parts (friends ∷ []) })
    & (refl, below 3 (2 ^ 62) refl)
    & (refl, below 4 (2 ^ 62) refl)
    & record { first_is = refl; most = up_to 3 (2 ^ 62) refl }
    & record { first_is = refl; most = up_to 4 (2 ^ 62) refl }
    & record { active = refl; ts = refl; drawn = below 5 (2 ^ 62) refl; no_tablet = refl; clear = refl; sound = first_friend_sound; made_of = record { keys_are = refl; lead_alike = refl } }
    & record { active = refl; ts = refl; drawn = below 6 (2 ^ 62) refl; no_tablet = refl; clear = refl; sound = second_friend_sound; made_of = record { keys_are = refl; lead_alike = refl } }
    & tt

pub pointed_legal : IsLegal 2 pointed_history
pointed_legal = joined 2 [] friends_history (drop 7 pointed_history) friends_legal (
    (refl, record { start_is = refl; ts = refl; drawn = below 8 (2 ^ 62) refl; none_active = refl; distinct = (tt, tt); none_held = (refl, tt); kinds = (λ e. (refl, refl), tt); fresh_are = refl; parts_are = pointed_are })
    & tt
    )

pub counted_legal : IsLegal 2 counted_history
counted_legal =
    (refl, record { start_is = refl; ts = refl; drawn = below 2 (2 ^ 62) refl; none_active = refl; distinct = (tt, tt); none_held = (refl, tt); kinds = (tt, tt); fresh_are = refl; parts_are = first_parts (counted_friends ∷ []) })
    & (refl, below 3 (2 ^ 62) refl)
    & (refl, below 4 (2 ^ 62) refl)
    & record { first_is = refl; most = up_to 3 (2 ^ 62) refl }
    & record { first_is = refl; most = up_to 4 (2 ^ 62) refl }
    & record { active = refl; ts = refl; drawn = below 5 (2 ^ 62) refl; no_tablet = refl; clear = refl; sound = first_counted_sound; made_of = record { keys_are = refl; lead_alike = refl } }
    & (refl, refl)
    & (refl, below 6 (2 ^ 62) refl)
    & record { first_is = refl; most = up_to 4 (2 ^ 62) refl }
    & record { active = refl; ts = refl; drawn = below 7 (2 ^ 62) refl; no_tablet = refl; clear = refl; sound = second_counted_sound; made_of = record { keys_are = refl; lead_alike = refl } }
    & tt

pub tags_legal : IsLegal 2 tags_history
unfolding chars encode_utf8
tags_legal =
    (refl, record { start_is = refl; ts = refl; drawn = below 2 (2 ^ 62) refl; none_active = refl; distinct = (tt, tt); none_held = (refl, tt); kinds = (tt, tt); fresh_are = refl; parts_are = first_parts (tags ∷ []) })
    & (refl, below 3 (2 ^ 62) refl)
    & record { first_is = refl; most = up_to 2 (2 ^ 62) refl }
    & record { active = refl; ts = refl; drawn = below 4 (2 ^ 62) refl; no_tablet = refl; clear = refl; sound = two_tags_sound; made_of = record { keys_are = refl; lead_alike = refl } }
    & (refl, below 5 (2 ^ 62) refl)
    & (refl, below 6 (2 ^ 62) refl)
    & record { first_is = refl; most = up_to 2 (2 ^ 62) refl }
    & record { first_is = refl; most = up_to 2 (2 ^ 62) refl }
    & record { active = refl; ts = refl; drawn = below 7 (2 ^ 62) refl; no_tablet = refl; clear = refl; sound = one_tag_sound; made_of = record { keys_are = refl; lead_alike = refl } }
    & (refl, refl)
    & tt

pub ann_legal : IsLegal 2 ann_history
ann_legal =
    (refl, record { start_is = refl; ts = refl; drawn = below 2 (2 ^ 62) refl; none_active = refl; distinct = (tt, tt); none_held = (refl, tt); kinds = (tt, tt); fresh_are = refl; parts_are = first_parts (names ∷ []) })
    & (refl, below 3 (2 ^ 62) refl)
    & record { first_is = refl; most = up_to 2 (2 ^ 62) refl }
    & record { active = refl; ts = refl; drawn = below 4 (2 ^ 62) refl; no_tablet = refl; clear = refl; sound = ann_sound; made_of = record { keys_are = refl; lead_alike = refl } }
    & tt

pub rolled_legal : IsLegal 2 rolled_history
rolled_legal = joined 2 [] ann_history (drop 4 rolled_history) ann_legal (
    (refl, below 5 (2 ^ 62) refl)
    & (refl, refl)
    & (refl, below 6 (2 ^ 62) refl)
    & record { first_is = refl; most = up_to 2 (2 ^ 62) refl }
    & record { active = refl; ts = refl; drawn = below 7 (2 ^ 62) refl; no_tablet = refl; clear = refl; sound = bob_sound; made_of = record { keys_are = refl; lead_alike = refl } }
    & (refl, record { copy = up_to 0 4 refl; below = up_to 4 4 refl })
    & tt
    & refl
    & (refl, refl)
    & (refl, record { copy = up_to 4 7 refl; below = up_to 7 7 refl })
    & (refl, refl)
    & (refl, record { copy = up_to 7 7 refl; below = up_to 7 7 refl })
    & tt
    )

pub moved_legal : IsLegal 2 moved_history
moved_legal = joined 2 [] ann_history (drop 4 moved_history) ann_legal (
    (refl, below 5 (2 ^ 62) refl)
    & (refl, record { owned = λ e. absurd (cc); idle = refl; least = up_to 1 2 refl; most = up_to 2 2 refl; no_copy = refl })
    & (refl, refl)
    & (refl, refl)
    & (refl, below 6 (2 ^ 62) refl)
    & record { first_is = refl; most = up_to 2 (2 ^ 62) refl }
    & (refl, refl)
    & (refl, refl, refl)
    & (refl, below 7 (2 ^ 62) refl)
    & tt
    & (refl, refl)
    & tt
    & refl
    & (refl, refl)
    & (refl, record { owned = λ e. absurd (cc); idle = refl; least = up_to 1 1 refl; most = up_to 1 2 refl; no_copy = refl })
    & tt
    )

pub called_off_legal : IsLegal 2 called_off_history
called_off_legal = joined 2 [] ann_history (drop 4 called_off_history) ann_legal (
    (refl, record { owned = λ e. absurd (cc); idle = refl; least = up_to 1 2 refl; most = up_to 2 2 refl; no_copy = refl })
    & (refl, refl)
    & (refl, λ e. absurd (cc))
    & (refl, below 5 (2 ^ 62) refl)
    & record { first_is = refl; most = up_to 2 (2 ^ 62) refl }
    & record { active = refl; ts = refl; drawn = below 6 (2 ^ 62) refl; no_tablet = refl; clear = refl; sound = bob_sound; made_of = record { keys_are = refl; lead_alike = refl } }
    & tt
    )

pub released_legal : IsLegal 2 released_history
released_legal = joined 2 [] ann_history (drop 4 released_history) ann_legal (
    (refl, record { owned = λ e. absurd (cc); idle = refl; least = up_to 1 2 refl; most = up_to 2 2 refl; no_copy = refl })
    & (refl, refl)
    & (refl, refl)
    & (refl, λ e. absurd (cc))
    & (refl, below 5 (2 ^ 62) refl)
    & record { first_is = refl; most = up_to 2 (2 ^ 62) refl }
    & record { active = refl; ts = refl; drawn = below 6 (2 ^ 62) refl; no_tablet = refl; clear = refl; sound = bob_sound; made_of = record { keys_are = refl; lead_alike = refl } }
    & tt
    )

pub late_legal : IsLegal 2 late_history
late_legal = joined 2 [] ann_history (drop 4 late_history) ann_legal (
    (refl, record { owned = λ e. absurd (cc); idle = refl; least = up_to 1 2 refl; most = up_to 2 2 refl; no_copy = refl })
    & (refl, refl)
    & (refl, below 5 (2 ^ 62) refl)
    & record { first_is = refl; most = up_to 2 (2 ^ 62) refl }
    & record { active = refl; ts = refl; drawn = below 6 (2 ^ 62) refl; no_tablet = refl; clear = refl; sound = bob_sound; made_of = record { keys_are = refl; lead_alike = refl } }
    & (refl, refl)
    & (refl, refl, refl)
    & (refl, below 7 (2 ^ 62) refl)
    & tt
    )

pub old_copy_legal : IsLegal 2 old_copy_history
old_copy_legal = joined 2 [] ann_history (drop 4 old_copy_history) ann_legal (
    (refl, below 5 (2 ^ 62) refl)
    & (refl, refl)
    & (refl, record { owned = λ e. absurd (cc); idle = refl; least = up_to 1 2 refl; most = up_to 2 2 refl; no_copy = refl })
    & (refl, refl)
    & (refl, refl)
    & (refl, refl, refl)
    & (refl, record { copy = up_to 0 4 refl; below = up_to 4 4 refl })
    & (refl, refl)
    & (refl, record { copy = up_to 0 4 refl; below = up_to 4 4 refl })
    & tt
    )

pub merged_image_legal : IsLegal 2 merged_image_history
merged_image_legal = joined 2 [] ann_history (drop 4 merged_image_history) ann_legal (
    (refl, record { owned = λ e. absurd (cc); idle = refl; least = up_to 1 2 refl; most = up_to 2 2 refl; no_copy = refl })
    & (refl, refl)
    & (refl, refl)
    & (refl, record { copy = up_to 0 4 refl; below = up_to 4 4 refl })
    & (refl, refl)
    & (refl, refl, refl)
    & (refl, refl)
    & (refl, record { copy = up_to 0 4 refl; below = up_to 4 4 refl })
    & tt
    )

pub indexed_legal : IsLegal 2 indexed_history
indexed_legal =
    (refl, record { start_is = refl; ts = refl; drawn = below 2 (2 ^ 62) refl; none_active = refl; distinct = (tt, tt); none_held = (refl, tt); kinds = (tt, tt); fresh_are = refl; parts_are = first_parts (plain_names ∷ []) })
    & (refl, below 3 (2 ^ 62) refl)
    & record { first_is = refl; most = up_to 2 (2 ^ 62) refl }
    & record { active = refl; ts = refl; drawn = below 4 (2 ^ 62) refl; no_tablet = refl; clear = refl; sound = plain_ann_sound; made_of = record { keys_are = refl; lead_alike = refl } }
    & (refl, record { start_is = refl; ts = refl; drawn = below 6 (2 ^ 62) refl; none_active = refl; distinct = (tt, tt); none_held = (refl, tt); kinds = (λ e. (refl, refl), tt); fresh_are = refl; parts_are = index_parts })
    & (refl, record { start_is = refl; ts = refl; drawn = below 8 (2 ^ 62) refl; none_active = refl; distinct = (tt, tt); none_held = (refl, tt); kinds = (λ e. (refl, refl), tt); fresh_are = refl; parts_are = no_index_parts })
    & tt

pub emails_legal : IsLegal 2 emails_history
emails_legal =
    (refl, record { start_is = refl; ts = refl; drawn = below 2 (2 ^ 62) refl; none_active = refl; distinct = (tt, tt); none_held = (refl, tt); kinds = (tt, tt); fresh_are = refl; parts_are = first_parts (emails ∷ []) })
    & (refl, below 3 (2 ^ 62) refl)
    & (refl, below 4 (2 ^ 62) refl)
    & record { first_is = refl; most = up_to 2 (2 ^ 62) refl }
    & record { first_is = refl; most = up_to 2 (2 ^ 62) refl }
    & record { first_is = refl; most = up_to 3 (2 ^ 62) refl }
    & record { active = refl; ts = refl; drawn = below 5 (2 ^ 62) refl; no_tablet = refl; clear = refl; sound = email_sound; made_of = record { keys_are = refl; lead_alike = refl } }
    & (refl, refl)
    & tt

pub films_legal : IsLegal 2 films_history
unfolding chars encode_utf8
films_legal =
    (refl, record { start_is = refl; ts = refl; drawn = below 2 (2 ^ 62) refl; none_active = refl; distinct = ((refl, (refl, (refl, (refl, tt)))), ((refl, (refl, (refl, tt))), ((refl, (refl, tt)), ((refl, tt), (tt, tt))))); none_held = (refl, (refl, (refl, (refl, (refl, tt))))); kinds = (tt, (tt, (tt, (tt, (tt, tt))))); fresh_are = refl; parts_are = first_parts film_schema })
    & (refl, below 3 (2 ^ 62) refl)
    & record { first_is = refl; most = up_to 4 (2 ^ 62) refl }
    & record { active = refl; ts = refl; drawn = below 4 (2 ^ 62) refl; no_tablet = refl; clear = refl; sound = films_sound; made_of = record { keys_are = refl; lead_alike = refl } }
    & (refl, refl)
    & (refl, record { copy = up_to 0 4 refl; below = up_to 4 4 refl })
    & (refl, record { owned = λ e. absurd (cc); idle = refl; least = up_to 1 1 refl; most = up_to 1 2 refl; no_copy = refl })
    & (refl, refl)
    & (refl, refl)
    & (refl, refl, refl)
    & (refl, below 5 (2 ^ 62) refl)
    & record { first_is = refl; most = up_to 4 (2 ^ 62) refl }
    & record { active = refl; ts = refl; drawn = below 6 (2 ^ 62) refl; no_tablet = refl; clear = refl; sound = no_director_sound; made_of = record { keys_are = refl; lead_alike = refl } }
    & tt
