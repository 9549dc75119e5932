-- The directives of lists of nodes, written as they are read.
use Rattle.std.specs.Prelude.{ℕ, Bool, true, false, not, ◌||◌, ◌&&◌, ◌==◌, List, [], ◌∷◌, ◌++◌, is_some, codes}
use Rattle.std.specs.List.{list_any}
use Rattle.dg_text.specs.Cases.{Reader, part, mark, word, also_at, here, choose, optional, repeated}
use Rattle.dg_text.specs.Marks.{open_round, close_round, comma, colon}
use Rattle.dg_text.specs.Reading.{◌>>=◌, ◌>>◌, give, next, one_as}
use Rattle.dg_text.specs.Tokens.{Tok, is_punct, is_word}
use Rattle.dg_parse.specs.declared.directives.Marks.{Marks}
use Rattle.dg_parse.specs.declared.directives.Owner.{Owner}
use Rattle.dg_parse.specs.declared.query.QDir.TheVariants as dirs
use Rattle.dg_parse.specs.declared.query.QOpt.{QOpt}
use Rattle.dg_parse.specs.declared.query.QOpt.TheVariants as options
use Rattle.dg_parse.specs.declared.words.DirWord.{DirWord}
use Rattle.dg_parse.specs.declared.words.DirWord.TheVariants as kinds
use Rattle.dg_parse.specs.Filters.{filter}
use Rattle.dg_parse.specs.Names.{int}
use Rattle.dg_parse.specs.Words.{directive_meant, truth_meant}

-- the option depth
abbrev pub is_depth : QOpt → Bool
is_depth (options.Depth n) = true
is_depth (options.Again b) = false

-- the option loop
abbrev pub is_loop : QOpt → Bool
is_loop (options.Depth n) = false
is_loop (options.Again b) = true

-- whether the depth stands among options
abbrev pub has_depth : List QOpt → Bool
has_depth = list_any is_depth

-- whether the loop stands among options
abbrev pub has_loop : List QOpt → Bool
has_loop = list_any is_loop

-- "depth" ":" Int; the second is refused
unfoldable pub depth_option : List QOpt → Reader (List QOpt)
depth_option before = do
  place ← here
  word (codes "depth")
  also_at place (has_depth before)
  mark colon
  n ← int
  give (before ++ options.Depth n ∷ [])

-- "loop" ":" ("true" | "false"); the second is refused
unfoldable pub loop_option : List QOpt → Reader (List QOpt)
loop_option before = do
  place ← here
  word (codes "loop")
  also_at place (has_loop before)
  mark colon
  b ← part (one_as truth_meant)
  give (before ++ options.Again b ∷ [])

-- ropt = "depth" ":" Int | "loop" ":" ("true" | "false")
unfoldable pub ropt : List QOpt → Reader (List QOpt)
ropt before = choose (next (is_word (codes "depth"))) (depth_option before) (loop_option before)

-- "," ropt
unfoldable pub comma_ropt : List QOpt → Reader (List QOpt)
comma_ropt before = do
  mark comma
  ropt before

-- "(" ropt { "," ropt } ")"
unfoldable pub ropts : Reader (List QOpt)
ropts = do
  mark open_round
  first ← ropt []
  all ← repeated (next (is_punct comma)) comma_ropt first
  mark close_round
  give all

-- "@filter" "(" or ")", behind its word
unfoldable pub filter_dir : Marks → ℕ → Reader Marks
filter_dir m place = do
  mark open_round
  f ← filter 33
  mark close_round
  give (record { dirs = m.dirs ++ dirs.Filter f ∷ []; filtered = place; cascaded = m.cascaded; normalized = m.normalized; recursed = m.recursed })

-- "@cascade": refused in a block with @recurse, and behind one on the block itself
unfoldable pub cascade_dir : Owner → Marks → ℕ → Reader Marks
cascade_dir o m place = do
  also_at place (o.recurse || (not (m.recursed == 0) && o.block))
  give (record { dirs = m.dirs ++ dirs.Cascade ∷ []; filtered = m.filtered; cascaded = place; normalized = m.normalized; recursed = m.recursed })

-- "@normalize": refused off a block, and in a block with @recurse
unfoldable pub normalize_dir : Owner → Marks → ℕ → Reader Marks
normalize_dir o m place = do
  also_at place (not o.block || not (m.recursed == 0))
  give (record { dirs = m.dirs ++ dirs.Normalize ∷ []; filtered = m.filtered; cascaded = m.cascaded; normalized = place; recursed = m.recursed })

-- "@recurse" [ "(" ropt { "," ropt } ")" ], behind its word: refused off a block. On a block it refuses the "as" in front
-- of the block, and the @cascade and the @normalize before it.
unfoldable pub recurse_dir : Owner → Marks → ℕ → Reader Marks
recurse_dir o m place = do
  also_at place (not o.block)
  also_at o.as_place o.block
  also_at m.cascaded o.block
  also_at m.normalized o.block
  all ← optional (next (is_punct open_round)) ropts []
  give (record { dirs = m.dirs ++ dirs.Recurse all ∷ []; filtered = m.filtered; cascaded = m.cascaded; normalized = m.normalized; recursed = place })

-- what stands behind the word of a directive
unfoldable pub dir_of : Owner → Marks → ℕ → DirWord → Reader Marks
dir_of o m place kinds.Filter = filter_dir m place
dir_of o m place kinds.Cascade = cascade_dir o m place
dir_of o m place kinds.Normalize = normalize_dir o m place
dir_of o m place kinds.Recurse = recurse_dir o m place

-- whether the directive was read before
abbrev pub is_marked : Marks → DirWord → Bool
is_marked m kinds.Filter = not (m.filtered == 0)
is_marked m kinds.Cascade = not (m.cascaded == 0)
is_marked m kinds.Normalize = not (m.normalized == 0)
is_marked m kinds.Recurse = not (m.recursed == 0)

-- dir, behind those before it: refused where it stands twice, and in a block without func
unfoldable pub dir : Owner → Marks → Reader Marks
dir o m = do
  place ← here
  w ← part (one_as directive_meant)
  also_at place (not o.has_func || is_marked m w)
  dir_of o m place w

-- a directive begins here
abbrev pub begins_dir : List Tok → Bool
begins_dir left = next (λ t. is_some (directive_meant t)) left

-- no directive
abbrev pub unmarked : Marks
unmarked = record { dirs = []; filtered = 0; cascaded = 0; normalized = 0; recursed = 0 }

-- { dir }
abbrev pub all_dirs : Owner → Reader Marks
all_dirs o = repeated begins_dir (dir o) unmarked
