-- What follows from the command that the words are.
use Rattle.std.proofs.Common.{◌≡◌, ◌≢◌, ◌↔◌, ℕ, List, [], ◌∷◌, ◌∙◌, ap, sym, subst, refl, Some, None}
use Rattle.std.specs.Prelude.{codes}
use Rattle.std.specs.declared.option.Option.{Option}
use Rattle.dg_node.specs.declared.status.Status.{Status}
use Rattle.dg_node.specs.declared.status.Status.TheVariants as statuses
use Rattle.dg_node.specs.declared.words.Command.{Command}
use Rattle.dg_node.specs.declared.words.Command.TheVariants as commands
use Rattle.dg_node.specs.Outputs.{Writes}
use Rattle.dg_node.specs.Loading.{Loads}
use Rattle.dg_node.specs.Words.{IsCommand, IsGen, IsLoad, IsRun, IsSized, Means}
use Rattle.dg_node.proofs.WordLemmas.{sized_once, not_named, gen_is_not_load, run_is_not_gen, run_is_not_load}

-- the words are the command that was found
pub found_means : (found command : Command) (ws : List (List ℕ)) → ((c : Command) → (Some found ≡ Some c) ↔ Means c ws) → found ≡ command → Means command ws
found_means found command ws exact is = (exact command).0 (ap (λ (c : Command). Some c) is)

-- where none was found the words are no command
pub none_means : (o : Option Command) (ws : List (List ℕ)) → ((c : Command) → (o ≡ Some c) ↔ Means c ws) → o ≡ None → ¬ IsCommand ws
none_means o ws exact is = λ means. absent (sym is ∙ (exact means.0).1 means.1)
  where
    absent : {A : Type 0} {a : A} → None ≡ Some a → ⊥
    absent e = cc

-- `run` is neither of the others, and they are apart
pub run_no_gen : (seed size : ℕ) (ws : List (List ℕ)) → IsRun ws → ¬ IsGen seed size ws
run_no_gen seed size ws run = λ gen. not_named (codes "run") (codes "gen") ws [] gen.options run_is_not_gen run gen.named

pub run_no_load : (seed size : ℕ) (ws : List (List ℕ)) → IsRun ws → ¬ IsLoad seed size ws
run_no_load seed size ws run = λ load. not_named (codes "run") (codes "load") ws [] load.options run_is_not_load run load.named

pub gen_no_load : (seed size seed_too size_too : ℕ) (ws : List (List ℕ)) → IsGen seed size ws → ¬ IsLoad seed_too size_too ws
gen_no_load seed size seed_too size_too ws gen = λ load. not_named (codes "gen") (codes "load") ws gen.options load.options gen_is_not_load gen.named load.named

-- what is so of the seed and the size that were read is so of those that the words say
pub at_once : (P : ℕ → ℕ → Type 0) (name : List ℕ) (seed size : ℕ) (ws : List (List ℕ)) → IsSized name seed size ws → P seed size → (s n : ℕ) → IsSized name s n ws → P s n
at_once P name seed size ws sized p s n too =
    let same = sized_once name seed size s n ws sized too in
    subst (λ (m : ℕ). P s m) same.1 (subst (λ (m : ℕ). P m size) same.0 p)

-- a command that writes a text ends neither with bad words nor with a fault of reading
pub writes_ends : (text : List ℕ) (a b : Option (List ℕ)) (status : Status) → Writes text a b status → (status ≢ statuses.BadWords) × (status ≢ statuses.ReadFault)
writes_ends text a b status w = (λ e. subst (Writes text a b) e w, λ e. subst (Writes text a b) e w)

pub loads_ends : (groups seed size : ℕ) (a b : Option (List ℕ)) (status : Status) → Loads groups seed size a b status → (status ≢ statuses.BadWords) × (status ≢ statuses.ReadFault)
loads_ends groups seed size a b status w = (λ e. subst (Loads groups seed size a b) e w, λ e. subst (Loads groups seed size a b) e w)
