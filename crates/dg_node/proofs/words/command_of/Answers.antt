use Rattle.std.specs.Prelude.{string_bytes, map}
use Rattle.dg_node.specs.declared.words.Command.TheVariants as commands
use Rattle.dg_node.proofs.WordLemmas.{found_one}
use Rattle.dg_node.proofs.words.command_of.Goals as goal

pub returns-in-Some : goal.returns-in-Some
returns-in-Some c = found_one (commands.Gen c.in-Some.seed c.in-Some.size) (map (λ w. string_bytes w) c.args.words.now) c.in-Some.ensures.found

pub returns : goal.returns
returns c = found_one (commands.Load c.in_ok-seed.seed c.in_ok-seed.size) (map (λ w. string_bytes w) c.args.words.now) c.in_ok-seed.ensures.found
