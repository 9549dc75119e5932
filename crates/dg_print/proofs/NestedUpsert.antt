-- What is printed of upsert blocks opens no more brackets than what was read, and their printed text is read again.
use Rattle.std.proofs.Common.{ℕ, suc, ◌≤◌, List, [], ◌∷◌, ◌++◌, flat_map, ap, refl, sym, ◌∙◌, subst}
use Rattle.std.specs.Prelude.{Some, None, codes}
use Rattle.std.specs.List.{AllByRecursion}
use Rattle.dg_text.specs.Cases.{Left}
use Rattle.dg_text.specs.Marks.{open_round, close_round, open_curly, close_curly}
use Rattle.dg_text.specs.Reading.{next}
use Rattle.dg_text.specs.Spelling.{name_word, at_word}
use Rattle.dg_text.specs.Tokens.{is_word}
use Rattle.dg_nquad.specs.Texts.{groups_words}
use Rattle.dg_parse.specs.declared.upsert.UCond.{UCond}
use Rattle.dg_parse.specs.declared.upsert.UMut.{UMut}
use Rattle.dg_print.specs.Laws.{UpsertReadsBack}
use Rattle.dg_print.specs.Printed.{in_round}
use Rattle.dg_print.specs.PrintedQuery.{query_words}
use Rattle.dg_print.specs.PrintedUpsert.{cond_words, if_words, mut_words, upsert_words}
use Rattle.dg_parse.specs.Upsert.{is_at_word, if_part, mut_of, begins_mut, muts, upsert}
use Rattle.dg_print.proofs.Again.{Reads, never}
use Rattle.dg_print.proofs.Lists.{Added, AddedAll, all_of}
use Rattle.dg_print.proofs.NestedConditions.{at_condition}
use Rattle.dg_print.proofs.NestedFields.{low_curly, at_braced_blocks}
use Rattle.dg_print.proofs.NestedGroups.{at_groups}
use Rattle.dg_print.proofs.NestedParts.{low_name, low_brackets, low_flat_map}
use Rattle.dg_print.proofs.Nesting.{Low, Nothing, Flat, low_append, Kept, bind, gives, weaker, either, at_skip, at_open, at_close, at_repeated}
use Rattle.dg_print.proofs.TextAgain.{was_read, of_read, Printed, printed, read_again, opens_low, printed_low}
use Rattle.dg_print.proofs.UpsertAgain as again
use Rattle.dg_print.proofs.UpsertAgain.{IsUpsert, upsert_reads}

low_if : (n : ℕ) (c : UCond) → suc n ≤ 32 → Low (suc n) (cond_words c) → Low n (if_words (Some c))
low_if n c le h = Flat n (at_word (codes "@if")) (in_round (cond_words c)) (λ start. (refl, refl)) (low_brackets n (cond_words c) le h)

at_mut : {n : ℕ} (before : List UMut) (left : Left) → Kept n n left (mut_of before left) (λ all. Added (λ _ m. Low n (mut_words m)) before all)
unfolding mut_of if_part
at_mut {n} before left =
    bind _ (at_skip (is_word (codes "mutation")) left (λ b t s. refl))
    (λ _ l. bind {X = λ c. Low n (if_words c)} _ (either (next (is_at_word (codes "@if")) l.tokens)
    (λ e. bind _ (at_skip (is_at_word (codes "@if")) l (λ b t s. refl))
    (λ _ k. bind _ (at_open open_round k (λ t s. (refl, refl)))
    (λ _ m. bind _ (at_condition 33 m)
    (λ c p. bind _ (at_close close_round p (λ t s. (refl, refl)))
    (λ _ q. gives (Some c) q (λ _ h le _. low_if n c le h))))))
    (λ e. gives None l (Nothing n)))
    (λ c k. bind _ (at_groups k)
    (λ all m. gives (before ++ record { cond = c; mutation = record { statements = all } } ∷ []) m
    (λ ha hc _. record { item = record { cond = c; mutation = record { statements = all } }; is = refl; good = low_name n (codes "mutation") (if_words c ++ groups_words all) (low_append n (if_words c) (groups_words all) hc ha) }))))

muts_low : (n : ℕ) (one all : List UMut) → Added (λ _ m. Low n (mut_words m)) [] one → AddedAll (λ _ m. Low n (mut_words m)) one all → Low n (flat_map mut_words all)
muts_low n one all a m =
    let every : AllByRecursion (λ m. Low n (mut_words m)) (a.item ∷ m.items) = (a.good, all_of (λ m. Low n (mut_words m)) one m.items m.good) in
    low_flat_map n mut_words all (subst (λ (l : List UMut). AllByRecursion (λ m. Low n (mut_words m)) l) (sym (m.is ∙ ap (λ l. l ++ m.items) a.is)) every)

at_upsert : {n : ℕ} (left : Left) → Kept n n left (upsert left) (λ u. Low n (upsert_words u))
unfolding upsert muts
at_upsert {n} left =
    bind _ (at_skip (is_word (codes "upsert")) left (λ b t s. refl))
    (λ _ l. bind _ (at_open open_curly l (λ t s. (refl, refl)))
    (λ _ k. bind _ (at_skip (is_word (codes "query")) k (λ b t s. refl))
    (λ _ m. bind _ (at_braced_blocks m)
    (λ q p. bind {X = λ all. Low (suc n) (flat_map mut_words all)} _ (bind _ (at_mut [] p) (λ first r. weaker (at_repeated begins_mut mut_of (λ m. Low (suc n) (mut_words m)) at_mut first r) (λ all more one. muts_low (suc n) first all one more)))
    (λ all r. bind _ (at_close close_curly r (λ t s. (refl, refl)))
    (λ _ s. gives (record { query = q; muts = all }) s (λ _ hm hq _ le _.
    low_name n (codes "upsert") _ (low_curly n (name_word (codes "query") ∷ (query_words q ++ flat_map mut_words all)) le
    (low_name (suc n) (codes "query") _ (low_append (suc n) (query_words q) (flat_map mut_words all) hq hm))))))))))

pub upsert_back : UpsertReadsBack
upsert_back text u e =
    let w = was_read upsert text u e in
    let is : IsUpsert u = of_read upsert (λ u l. IsUpsert u) again.at_upsert text u w in
    let r : Reads upsert u (upsert_words u) never = upsert_reads u is in
    let p : Printed (upsert_words u) = printed r in
    read_again upsert u (upsert_words u) r p (printed_low (upsert_words u) (opens_low upsert upsert_words at_upsert text u w) p)
