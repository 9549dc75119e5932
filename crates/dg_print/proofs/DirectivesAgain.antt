-- Directives are read again.
use Rattle.std.proofs.Common.{◌≡◌, ℕ, zero, suc, ◌<◌, ◌≤◌, ◌==◌, Bool, true, false, ◌||◌, List, [], ◌∷◌, ◌++◌, length, flat_map, ap, refl, sym, ◌∙◌, subst, append_assoc, append-nil, arith, length-append}
use Rattle.std.specs.Prelude.{Ok, not, if◌then◌else◌, ◌&&◌, codes}
use Rattle.std.proofs.lemmas.Bool.{false≢true}
use Rattle.dg_text.specs.Cases.{Left, upon}
use Rattle.dg_text.specs.Marks.{open_round, close_round}
use Rattle.dg_text.specs.Reading.{and_then, turns}
use Rattle.dg_text.specs.Tokens.{Tok, is_punct}
use Rattle.dg_text.proofs.Fronts.{positive}
use Rattle.dg_parse.specs.declared.directives.Marks.{Marks}
use Rattle.dg_parse.specs.declared.directives.Owner.{Owner}
use Rattle.dg_parse.specs.declared.query.QDir.{QDir}
use Rattle.dg_parse.specs.declared.query.QDir.TheVariants as dirs
use Rattle.dg_parse.specs.declared.query.QOpt.{QOpt}
use Rattle.dg_parse.specs.declared.words.DirWord.{DirWord}
use Rattle.dg_parse.specs.declared.words.DirWord.TheVariants as kinds
use Rattle.dg_parse.specs.Directives.{filter_dir, cascade_dir, normalize_dir, recurse_dir, dir_of, is_marked, dir, begins_dir, unmarked, all_dirs}
use Rattle.dg_print.specs.Printed.{dir_words, filter_words}
use Rattle.dg_text.specs.Spelling.{mark_word}
use Rattle.dg_parse.specs.Words.{directive_meant}
use Rattle.dg_print.proofs.Again.{Each, AreWords, bind, gives, weaker, either, at_one, at_skip, at_also, at_here, some_took, words_append, at, on, behind, on_append}
use Rattle.dg_print.proofs.ArgumentsAgain.{is_open}
use Rattle.dg_print.proofs.FilterWords.{IsFilter}
use Rattle.dg_print.proofs.FiltersAgain.{at_filter, filter_reads}
use Rattle.dg_print.proofs.FixedWords.{fixed_at, sign}
use Rattle.dg_print.proofs.Lists.{on_length, or_first, or_second}
use Rattle.dg_print.proofs.OptionsAgain.{AreOpts, at_opts, opts_read}

-- ---- what is read

-- what is remembered behind a directive that was read at a place
abbrev pub marked : QDir → ℕ → Marks → Marks
marked (dirs.Filter f) place m = record { dirs = m.dirs ++ dirs.Filter f ∷ []; filtered = place; cascaded = m.cascaded; normalized = m.normalized; recursed = m.recursed }
marked dirs.Cascade place m = record { dirs = m.dirs ++ dirs.Cascade ∷ []; filtered = m.filtered; cascaded = place; normalized = m.normalized; recursed = m.recursed }
marked dirs.Normalize place m = record { dirs = m.dirs ++ dirs.Normalize ∷ []; filtered = m.filtered; cascaded = m.cascaded; normalized = place; recursed = m.recursed }
marked (dirs.Recurse os) place m = record { dirs = m.dirs ++ dirs.Recurse os ∷ []; filtered = m.filtered; cascaded = m.cascaded; normalized = m.normalized; recursed = place }

-- the word of a directive
abbrev pub word_of : QDir → DirWord
word_of (dirs.Filter f) = kinds.Filter
word_of dirs.Cascade = kinds.Cascade
word_of dirs.Normalize = kinds.Normalize
word_of (dirs.Recurse os) = kinds.Recurse

-- @recurse may stand there
pub record IsRecurse (o : Owner) (m : Marks) (os : List QOpt) : Type 0 where
  pub block : not o.block ≡ false
  pub no_as : 0 < o.as_place → o.block ≡ false
  pub cascaded : 0 < m.cascaded → o.block ≡ false
  pub normalized : 0 < m.normalized → o.block ≡ false
  pub opts : AreOpts os

-- a directive may stand behind others, by what it is
abbrev pub Suits : Owner → Marks → QDir → Type 0
Suits o m (dirs.Filter f) = IsFilter 33 f
Suits o m dirs.Cascade = (o.recurse || (not (m.recursed == 0) && o.block)) ≡ false
Suits o m dirs.Normalize = (not o.block || not (m.recursed == 0)) ≡ false
Suits o m (dirs.Recurse os) = IsRecurse o m os

-- a directive that was read behind others
pub record AddedDir (o : Owner) (m : Marks) (after : Marks) : Type 0 where
  pub item : QDir
  pub place : ℕ
  pub some : 0 < place
  pub is : after ≡ marked item place m
  pub free : (not o.has_func || is_marked m (word_of item)) ≡ false
  pub suits : Suits o m item

-- what stands behind its word
record DirBehind (o : Owner) (m : Marks) (place : ℕ) (w : DirWord) (after : Marks) : Type 0 where
  pub item : QDir
  pub is : after ≡ marked item place m
  pub of_word : word_of item ≡ w
  pub suits : 0 < place → Suits o m item

at_dir_of : (o : Owner) (m : Marks) (place : ℕ) (w : DirWord) (left : Left) → Each left (dir_of o m place w left) (λ after l. DirBehind o m place w after)
unfolding dir_of filter_dir cascade_dir normalize_dir recurse_dir
at_dir_of o m place kinds.Filter left =
    bind _ (at_skip (is_punct open_round) left)
    (λ _ l. bind _ (at_filter 33 l)
    (λ f k. bind _ (at_skip (is_punct close_round) k)
    (λ _ n. gives _ n (λ _ h _. record { item = dirs.Filter f; is = refl; of_word = refl; suits = λ lt. h }))))
at_dir_of o m place kinds.Cascade left =
    bind _ (at_also place (o.recurse || (not (m.recursed == 0) && o.block)) left)
    (λ _ l. gives _ l (λ also. record { item = dirs.Cascade; is = refl; of_word = refl; suits = also.0 }))
at_dir_of o m place kinds.Normalize left =
    bind _ (at_also place (not o.block || not (m.recursed == 0)) left)
    (λ _ l. gives _ l (λ also. record { item = dirs.Normalize; is = refl; of_word = refl; suits = also.0 }))
at_dir_of o m place kinds.Recurse left =
    bind _ (at_also place (not o.block) left)
    (λ _ l. bind _ (at_also o.as_place o.block l)
    (λ _ k. bind _ (at_also m.cascaded o.block k)
    (λ _ n. bind _ (at_also m.normalized o.block n)
    (λ _ p. bind _ (at_opts p)
    (λ os q. gives _ q (λ h n c a b. record { item = dirs.Recurse os; is = refl; of_word = refl; suits = λ lt. record { block = b.0 lt; no_as = a.0; cascaded = c.0; normalized = n.0; opts = h } }))))))

added_dir : (o : Owner) (m : Marks) (place : ℕ) (w : DirWord) (after : Marks) → 0 < place → (not o.has_func || is_marked m w) ≡ false → DirBehind o m place w after → AddedDir o m after
added_dir o m place w after lt e b = record {
  item = b.item;
  place = place;
  some = lt;
  is = b.is;
  free = ap (λ v. not o.has_func || is_marked m v) b.of_word ∙ e;
  suits = b.suits lt;
}

at_dir : (o : Owner) (m : Marks) (left : Left) → Each left (dir o m left) (λ after l. AddedDir o m after)
unfolding dir
at_dir o m left =
    bind _ (at_here left)
    (λ place l. bind _ (at_one directive_meant l)
    (λ w k. bind _ (at_also place (not o.has_func || is_marked m w) k)
    (λ _ n. weaker (at_dir_of o m place w n)
    (λ after q b also took here.
    let lt : 0 < place = subst (λ (n : ℕ). 0 < n) (sym here) (some_took took) in
    added_dir o m place w after lt (also.0 lt) b))))

-- directives that were read behind others, and what is remembered then
pub data DirsTo (o : Owner) : Marks → List QDir → Marks → Type 0 where
  None_more : (m : Marks) → DirsTo o m [] m
  One_more : (m after end : Marks) (a : AddedDir o m after) (ds : List QDir) → DirsTo o after ds end → DirsTo o m (a.item ∷ ds) end

-- the same, whichever they are
pub record AreDirs (o : Owner) (m end : Marks) : Type 0 where
  pub items : List QDir
  pub to : DirsTo o m items end

at_dir_turns : (o : Owner) (n : ℕ) (m : Marks) (left : Left) → Each left (turns n (upon begins_dir) (dir o) m left) (λ end l. AreDirs o m end)
unfolding turns
at_dir_turns o zero m left = gives m left (record { items = []; to = None_more m })
at_dir_turns o (suc n) m left =
    either (begins_dir left.tokens)
    (λ b. bind (turns n (upon begins_dir) (dir o)) (at_dir o m left)
    (λ after k. weaker (at_dir_turns o n after k) (λ end l more added. record { items = added.item ∷ more.items; to = One_more m after end added more.items more.to })))
    (λ b. gives m left (record { items = []; to = None_more m }))

pub at_dirs : (o : Owner) (left : Left) → Each left (all_dirs o left) (λ end l. AreDirs o unmarked end)
at_dirs o left = at_dir_turns o (length left.tokens) unmarked left

-- ---- what is written is read again

-- the same but for the places
pub record SameMarks (m k : Marks) : Type 0 where
  pub dirs : k.dirs ≡ m.dirs
  pub filtered : (k.filtered == 0) ≡ (m.filtered == 0)
  pub cascaded : (k.cascaded == 0) ≡ (m.cascaded == 0)
  pub normalized : (k.normalized == 0) ≡ (m.normalized == 0)
  pub recursed : (k.recursed == 0) ≡ (m.recursed == 0)

pub record SameOwner (o p : Owner) : Type 0 where
  pub block : p.block ≡ o.block
  pub has_func : p.has_func ≡ o.has_func
  pub recurse : p.recurse ≡ o.recurse
  pub as_place : o.as_place ≡ 0 → p.as_place ≡ 0

-- two places
both_some : (a b : ℕ) → 0 < a → 0 < b → (b == 0) ≡ (a == 0)
both_some a b x y = positive b y ∙ sym (positive a x)

marked_same : (d : QDir) (a b : ℕ) (m k : Marks) → 0 < a → 0 < b → SameMarks m k → SameMarks (marked d a m) (marked d b k)
marked_same (dirs.Filter f) a b m k x y s = record { dirs = ap (λ l. l ++ dirs.Filter f ∷ []) s.dirs; filtered = both_some a b x y; cascaded = s.cascaded; normalized = s.normalized; recursed = s.recursed }
marked_same dirs.Cascade a b m k x y s = record { dirs = ap (λ l. l ++ dirs.Cascade ∷ []) s.dirs; filtered = s.filtered; cascaded = both_some a b x y; normalized = s.normalized; recursed = s.recursed }
marked_same dirs.Normalize a b m k x y s = record { dirs = ap (λ l. l ++ dirs.Normalize ∷ []) s.dirs; filtered = s.filtered; cascaded = s.cascaded; normalized = both_some a b x y; recursed = s.recursed }
marked_same (dirs.Recurse os) a b m k x y s = record { dirs = ap (λ l. l ++ dirs.Recurse os ∷ []) s.dirs; filtered = s.filtered; cascaded = s.cascaded; normalized = s.normalized; recursed = both_some a b x y }

is_marked_same : (m k : Marks) → SameMarks m k → (w : DirWord) → is_marked k w ≡ is_marked m w
is_marked_same m k s kinds.Filter = ap not s.filtered
is_marked_same m k s kinds.Cascade = ap not s.cascaded
is_marked_same m k s kinds.Normalize = ap not s.normalized
is_marked_same m k s kinds.Recurse = ap not s.recursed

is_zero : (n : ℕ) → (0 < n → ⊥) → n ≡ 0
is_zero zero h = refl
is_zero (suc n) h = absurd (h (omega arith))

zero_same : (a b : ℕ) → (b == 0) ≡ (a == 0) → a ≡ 0 → b ≡ 0
zero_same a zero e z = refl
zero_same a (suc b) e z = absurd (false≢true (sym (positive (suc b) (omega arith)) ∙ e ∙ ap (λ n. n == 0) z))

is_true : (b : Bool) → not b ≡ false → b ≡ true
is_true true e = refl
is_true false e = absurd (false≢true (sym e))

dir_fixed : (d : QDir) (o : Owner) (m : Marks) → Suits o m d → AreWords (dir_words d)
dir_fixed (dirs.Filter f) o m h = (fixed_at (codes "filter") refl refl, (sign 40 refl, words_append (filter_words f) (mark_word 41 ∷ []) (filter_reads 33 f h).words (sign 41 refl, tt)))
dir_fixed dirs.Cascade o m h = (fixed_at (codes "cascade") refl refl, tt)
dir_fixed dirs.Normalize o m h = (fixed_at (codes "normalize") refl refl, tt)
dir_fixed (dirs.Recurse os) o m h = (fixed_at (codes "recurse") refl refl, (opts_read os h.opts).words)

dir_begins : (d : QDir) (f : ℕ → ℕ) (rest : List Tok) → begins_dir (on f (dir_words d) rest) ≡ true
dir_begins (dirs.Filter fl) f rest = refl
dir_begins dirs.Cascade f rest = refl
dir_begins dirs.Normalize f rest = refl
dir_begins (dirs.Recurse os) f rest = refl

dir_closed : (d : QDir) (f : ℕ → ℕ) (rest : List Tok) → is_open (on f (dir_words d) rest) ≡ false
dir_closed (dirs.Filter fl) f rest = refl
dir_closed dirs.Cascade f rest = refl
dir_closed dirs.Normalize f rest = refl
dir_closed (dirs.Recurse os) f rest = refl

dir_some : (d : QDir) → 0 < length (dir_words d)
dir_some (dirs.Filter fl) = omega arith
dir_some dirs.Cascade = omega arith
dir_some dirs.Normalize = omega arith
dir_some (dirs.Recurse os) = omega arith

module _ (o p : Owner) (so : SameOwner o p) where
  free_same : (m k : Marks) → SameMarks m k → (w : DirWord) → (not o.has_func || is_marked m w) ≡ false → (not p.has_func || is_marked k w) ≡ false
  free_same m k s w e = ap (λ b. not b || is_marked k w) so.has_func ∙ ap (λ b. not o.has_func || b) (is_marked_same m k s w) ∙ e

  dir_again : (d : QDir) (m k : Marks) → SameMarks m k → (not o.has_func || is_marked m (word_of d)) ≡ false → Suits o m d → (f : ℕ → ℕ) (rest : List Tok) → is_open rest ≡ false
      → dir p k (at (on f (dir_words d) rest)) ≡ Ok (marked d (length (on f (dir_words d) rest)) k, at rest)
  unfolding dir dir_of filter_dir cascade_dir normalize_dir recurse_dir
  dir_again (dirs.Filter fl) m k s e h f rest c =
      let g : ℕ → ℕ = λ n. f (suc (suc n)) in
      rw (free_same m k s kinds.Filter e, on_append g (filter_words fl) (mark_word 41 ∷ []) rest, (filter_reads 33 fl h).again g (on (behind g (filter_words fl)) (mark_word 41 ∷ []) rest) refl) refl
  dir_again dirs.Cascade m k s e h f rest c =
      let test : (p.recurse || (not (k.recursed == 0) && p.block)) ≡ false = rw (so.recurse, s.recursed, so.block) h in
      rw (free_same m k s kinds.Cascade e, test) refl
  dir_again dirs.Normalize m k s e h f rest c =
      let test : (not p.block || not (k.recursed == 0)) ≡ false = rw (s.recursed, so.block) h in
      rw (free_same m k s kinds.Normalize e, test) refl
  dir_again (dirs.Recurse os) m k s e h f rest c =
      let block : o.block ≡ true = is_true o.block h.block in
      let no : o.block ≡ false → ⊥ = λ b. false≢true (sym b ∙ block) in
      let here : p.block ≡ true = so.block ∙ block in
      let no_as : p.as_place ≡ 0 = so.as_place (is_zero o.as_place (λ lt. no (h.no_as lt))) in
      let cascaded : k.cascaded ≡ 0 = zero_same m.cascaded k.cascaded s.cascaded (is_zero m.cascaded (λ lt. no (h.cascaded lt))) in
      let normalized : k.normalized ≡ 0 = zero_same m.normalized k.normalized s.normalized (is_zero m.normalized (λ lt. no (h.normalized lt))) in
      rw (free_same m k s kinds.Recurse e, here, no_as, cascaded, normalized, (opts_read os h.opts).again (λ n. f (suc n)) rest c) refl

  -- directives that are read again
  record AgainTo (end : Marks) (k : Marks) (most : ℕ) (tokens rest : List Tok) : Type 0 where
    pub after : Marks
    pub is : turns most (upon begins_dir) (dir p) k (at tokens) ≡ Ok (after, at rest)
    pub same : SameMarks end after

  still_closed : (ds : List QDir) (f : ℕ → ℕ) (rest : List Tok) → is_open rest ≡ false → is_open (on f (flat_map dir_words ds) rest) ≡ false
  still_closed [] f rest e = e
  still_closed (d ∷ ds) f rest e = ap is_open (on_append f (dir_words d) (flat_map dir_words ds) rest) ∙ dir_closed d f (on (behind f (dir_words d)) (flat_map dir_words ds) rest)

  dirs_again : (most : ℕ) (m : Marks) (ds : List QDir) (end : Marks) → DirsTo o m ds end → (k : Marks) → SameMarks m k → (f : ℕ → ℕ) (rest : List Tok) → length ds ≤ most → begins_dir rest ≡ false → is_open rest ≡ false
      → AgainTo end k most (on f (flat_map dir_words ds) rest) rest
  unfolding turns
  dirs_again zero m [] end (None_more m2) k s f rest le b c = record { after = k; is = refl; same = s }
  dirs_again zero m (d ∷ ds) end to k s f rest le b c = absurd (omega (arith, le))
  dirs_again (suc most) m [] end (None_more m2) k s f rest le b c = record { after = k; is = rw b refl; same = s }
  dirs_again (suc most) m (d ∷ ds) end (One_more m2 after end2 a ds2 to) k s f rest le b c =
      let g : ℕ → ℕ = behind f (dir_words a.item) in
      let mid : List Tok = on g (flat_map dir_words ds) rest in
      let here : List Tok = on f (dir_words a.item) mid in
      let k2 : Marks = marked a.item (length here) k in
      let part : dir p k (at here) ≡ Ok (k2, at mid) = dir_again a.item m k s a.free a.suits f mid (still_closed ds g rest c) in
      let some : 0 < length here = omega (arith, on_length f (dir_words a.item) mid, dir_some a.item) in
      let same : SameMarks after k2 = subst (λ (n : Marks). SameMarks n k2) (sym a.is) (marked_same a.item a.place (length here) m k a.some some s) in
      let more : AgainTo end k2 most mid rest = dirs_again most after ds end to k2 same g rest (omega (arith, le)) b c in
      record {
        after = more.after;
        is = ap (λ l. turns (suc most) (upon begins_dir) (dir p) k (at l)) (on_append f (dir_words a.item) (flat_map dir_words ds) rest)
            ∙ ap (λ t. if t then and_then (dir p k (at here)) (turns most (upon begins_dir) (dir p)) else Ok (k, at here)) (dir_begins a.item f mid)
            ∙ ap (λ q. and_then q (turns most (upon begins_dir) (dir p))) part
            ∙ more.is;
        same = more.same;
      }

dirs_words : (o : Owner) (m : Marks) (ds : List QDir) (end : Marks) → DirsTo o m ds end → AreWords (flat_map dir_words ds)
dirs_words o m [] end (None_more m2) = tt
dirs_words o m (d ∷ ds) end (One_more m2 after end2 a ds2 to) = words_append (dir_words a.item) (flat_map dir_words ds) (dir_fixed a.item o m a.suits) (dirs_words o after ds end to)

marked_dirs : (d : QDir) (place : ℕ) (m : Marks) → (marked d place m).dirs ≡ m.dirs ++ d ∷ []
marked_dirs (dirs.Filter f) place m = refl
marked_dirs dirs.Cascade place m = refl
marked_dirs dirs.Normalize place m = refl
marked_dirs (dirs.Recurse os) place m = refl

dirs_are : (o : Owner) (m : Marks) (ds : List QDir) (end : Marks) → DirsTo o m ds end → end.dirs ≡ m.dirs ++ ds
dirs_are o m [] end (None_more m2) = sym (append-nil m.dirs)
dirs_are o m (d ∷ ds) end (One_more m2 after end2 a ds2 to) =
    dirs_are o after ds end to ∙ ap (λ (n : Marks). n.dirs ++ ds) a.is ∙ ap (λ l. l ++ ds) (marked_dirs a.item a.place m) ∙ append_assoc m.dirs (a.item ∷ []) ds

dirs_fit : (ds : List QDir) → length ds ≤ length (flat_map dir_words ds)
dirs_fit [] = omega arith
dirs_fit (d ∷ ds) = omega (arith, dirs_fit ds, dir_some d, length-append (dir_words d) (flat_map dir_words ds))

-- a directive comes next, or "("
abbrev pub bars_dirs : List Tok → Bool
bars_dirs l = begins_dir l || is_open l

-- what is remembered behind the directives that are read again
pub record DirsAgain (p : Owner) (end : Marks) (tokens rest : List Tok) : Type 0 where
  pub after : Marks
  pub is : all_dirs p (at tokens) ≡ Ok (after, at rest)
  pub same : SameMarks end after

pub record ReadDirs (o : Owner) (end : Marks) : Type 0 where
  pub words : AreWords (flat_map dir_words end.dirs)
  pub again : (p : Owner) → SameOwner o p → (f : ℕ → ℕ) (rest : List Tok) → bars_dirs rest ≡ false → DirsAgain p end (on f (flat_map dir_words end.dirs) rest) rest

pub dirs_read : (o : Owner) (end : Marks) → AreDirs o unmarked end → ReadDirs o end
dirs_read o end a =
    let are : end.dirs ≡ a.items = dirs_are o unmarked a.items end a.to in
    record {
      words = subst (λ (ds : List QDir). AreWords (flat_map dir_words ds)) (sym are) (dirs_words o unmarked a.items end a.to);
      again = λ p so f rest e.
          let none : SameMarks unmarked unmarked = record { dirs = refl; filtered = refl; cascaded = refl; normalized = refl; recursed = refl } in
          let tokens : List Tok = on f (flat_map dir_words a.items) rest in
          let fit : length a.items ≤ length tokens = omega (arith, on_length f (flat_map dir_words a.items) rest, dirs_fit a.items) in
          let more = dirs_again o p so (length tokens) unmarked a.items end a.to unmarked none f rest fit (or_first (begins_dir rest) (is_open rest) e) (or_second (begins_dir rest) (is_open rest) e) in
          let it : DirsAgain p end tokens rest = record { after = more.after; is = more.is; same = more.same } in
          subst (λ (ds : List QDir). DirsAgain p end (on f (flat_map dir_words ds) rest) rest) (sym are) it;
    }
