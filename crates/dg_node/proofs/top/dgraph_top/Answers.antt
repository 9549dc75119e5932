use Rattle.std.proofs.Common.{arith}
use Rattle.std.specs.Prelude.{map, string_bytes, codes}
use Rattle.dg_wire.specs.Frames.{frames}
use Rattle.dg_wire.specs.Generator.{generated}
use Rattle.dg_node.specs.declared.words.Command.TheVariants as commands
use Rattle.dg_node.specs.Loading.{Loads}
use Rattle.dg_node.specs.Outputs.{Writes}
use Rattle.dg_node.specs.Words.{DEFAULT_GROUPS}
use Rattle.dg_node.proofs.Commanded.{found_means, none_means, run_no_gen, run_no_load, gen_no_load, at_once}
use Rattle.dg_node.proofs.Makers.{each_itself, first_grew}
use Rattle.dg_node.proofs.top.dgraph_top.Goals as goal

pub returns-in_default-clause-run : goal.returns-in_default-clause-run
returns-in_default-clause-run g c = λ run. absurd (none_means c.command_of.result (map (λ w. string_bytes w) c.args.words.now) c.command_of.ensures c.in_default.is (commands.Run, run))

pub returns-in_default-clause-generated : goal.returns-in_default-clause-generated
returns-in_default-clause-generated g c = λ seed size gen. absurd (none_means c.command_of.result (map (λ w. string_bytes w) c.args.words.now) c.command_of.ensures c.in_default.is (commands.Gen seed size, gen))

pub returns-in_default-clause-loaded : goal.returns-in_default-clause-loaded
returns-in_default-clause-loaded g c = λ seed size load. absurd (none_means c.command_of.result (map (λ w. string_bytes w) c.args.words.now) c.command_of.ensures c.in_default.is (commands.Load seed size, load))

pub returns-in_default-clause-patterns : goal.returns-in_default-clause-patterns
returns-in_default-clause-patterns g c = each_itself g.P.Patterns.refused c.args.patterns.now

pub write_gen-requires-clause-seed : goal.write_gen-requires-clause-seed
write_gen-requires-clause-seed g c = (found_means c.in-Some.command (commands.Gen c.in-Gen.seed c.in-Gen.size) (map (λ w. string_bytes w) c.args.words.now) c.in-Some.ensures c.in-Gen.is).seed_most

pub write_gen-requires-clause-some : goal.write_gen-requires-clause-some
write_gen-requires-clause-some g c = (found_means c.in-Some.command (commands.Gen c.in-Gen.seed c.in-Gen.size) (map (λ w. string_bytes w) c.args.words.now) c.in-Some.ensures c.in-Gen.is).size_least

pub write_gen-requires-clause-few : goal.write_gen-requires-clause-few
write_gen-requires-clause-few g c = (found_means c.in-Some.command (commands.Gen c.in-Gen.seed c.in-Gen.size) (map (λ w. string_bytes w) c.args.words.now) c.in-Some.ensures c.in-Gen.is).size_most

pub load-requires-clause-seed : goal.load-requires-clause-seed
load-requires-clause-seed g c = (found_means c.in-Some.command (commands.Load c.in-Load.seed c.in-Load.size) (map (λ w. string_bytes w) c.args.words.now) c.in-Some.ensures c.in-Load.is).seed_most

pub load-requires-clause-some : goal.load-requires-clause-some
load-requires-clause-some g c = (found_means c.in-Some.command (commands.Load c.in-Load.seed c.in-Load.size) (map (λ w. string_bytes w) c.args.words.now) c.in-Some.ensures c.in-Load.is).size_least

pub load-requires-clause-few : goal.load-requires-clause-few
load-requires-clause-few g c = (found_means c.in-Some.command (commands.Load c.in-Load.seed c.in-Load.size) (map (λ w. string_bytes w) c.args.words.now) c.in-Some.ensures c.in-Load.is).size_most

pub returns-in-Run-clause-generated : goal.returns-in-Run-clause-generated
returns-in-Run-clause-generated g c = λ seed size gen. absurd (run_no_gen seed size (map (λ w. string_bytes w) c.args.words.now) (found_means c.in-Some.command commands.Run (map (λ w. string_bytes w) c.args.words.now) c.in-Some.ensures c.in-Run.is) gen)

pub returns-in-Run-clause-loaded : goal.returns-in-Run-clause-loaded
returns-in-Run-clause-loaded g c = λ seed size load. absurd (run_no_load seed size (map (λ w. string_bytes w) c.args.words.now) (found_means c.in-Some.command commands.Run (map (λ w. string_bytes w) c.args.words.now) c.in-Some.ensures c.in-Run.is) load)

pub returns-in-Run-clause-unread : goal.returns-in-Run-clause-unread
returns-in-Run-clause-unread g c = λ apart. absurd (apart (found_means c.in-Some.command commands.Run (map (λ w. string_bytes w) c.args.words.now) c.in-Some.ensures c.in-Run.is))

pub returns-in-Run-clause-patterns : goal.returns-in-Run-clause-patterns
returns-in-Run-clause-patterns g c = first_grew g.P.Patterns.refused c.args.patterns.now c.run_script.new.patterns c.index-patterns-0.result (omega (arith, c.requires.makers)) c.run_script.ensures.patterns

pub returns-in-Gen-clause-run : goal.returns-in-Gen-clause-run
returns-in-Gen-clause-run g c = λ run. absurd (run_no_gen c.in-Gen.seed c.in-Gen.size (map (λ w. string_bytes w) c.args.words.now) run (found_means c.in-Some.command (commands.Gen c.in-Gen.seed c.in-Gen.size) (map (λ w. string_bytes w) c.args.words.now) c.in-Some.ensures c.in-Gen.is))

pub returns-in-Gen-clause-generated : goal.returns-in-Gen-clause-generated
returns-in-Gen-clause-generated g c = at_once (λ seed size. Writes (frames (generated seed size)) (g.K.Sink.held c.args.sink.now) (g.K.Sink.held c.write_gen.new.sink) c.write_gen.result) (codes "gen") c.in-Gen.seed c.in-Gen.size (map (λ w. string_bytes w) c.args.words.now) (found_means c.in-Some.command (commands.Gen c.in-Gen.seed c.in-Gen.size) (map (λ w. string_bytes w) c.args.words.now) c.in-Some.ensures c.in-Gen.is) c.write_gen.ensures.written

pub returns-in-Gen-clause-loaded : goal.returns-in-Gen-clause-loaded
returns-in-Gen-clause-loaded g c = λ seed size load. absurd (gen_no_load c.in-Gen.seed c.in-Gen.size seed size (map (λ w. string_bytes w) c.args.words.now) (found_means c.in-Some.command (commands.Gen c.in-Gen.seed c.in-Gen.size) (map (λ w. string_bytes w) c.args.words.now) c.in-Some.ensures c.in-Gen.is) load)

pub returns-in-Gen-clause-patterns : goal.returns-in-Gen-clause-patterns
returns-in-Gen-clause-patterns g c = each_itself g.P.Patterns.refused c.args.patterns.now

pub returns-in-Load-clause-run : goal.returns-in-Load-clause-run
returns-in-Load-clause-run g c = λ run. absurd (run_no_load c.in-Load.seed c.in-Load.size (map (λ w. string_bytes w) c.args.words.now) run (found_means c.in-Some.command (commands.Load c.in-Load.seed c.in-Load.size) (map (λ w. string_bytes w) c.args.words.now) c.in-Some.ensures c.in-Load.is))

pub returns-in-Load-clause-generated : goal.returns-in-Load-clause-generated
returns-in-Load-clause-generated g c = λ seed size gen. absurd (gen_no_load seed size c.in-Load.seed c.in-Load.size (map (λ w. string_bytes w) c.args.words.now) gen (found_means c.in-Some.command (commands.Load c.in-Load.seed c.in-Load.size) (map (λ w. string_bytes w) c.args.words.now) c.in-Some.ensures c.in-Load.is))

pub returns-in-Load-clause-loaded : goal.returns-in-Load-clause-loaded
returns-in-Load-clause-loaded g c = at_once (λ seed size. Loads DEFAULT_GROUPS seed size (g.K.Sink.held c.args.sink.now) (g.K.Sink.held c.load.new.sink) c.load.result) (codes "load") c.in-Load.seed c.in-Load.size (map (λ w. string_bytes w) c.args.words.now) (found_means c.in-Some.command (commands.Load c.in-Load.seed c.in-Load.size) (map (λ w. string_bytes w) c.args.words.now) c.in-Some.ensures c.in-Load.is) c.load.ensures.loaded

pub returns-in-Load-clause-patterns : goal.returns-in-Load-clause-patterns
returns-in-Load-clause-patterns g c = each_itself g.P.Patterns.refused c.args.patterns.now
