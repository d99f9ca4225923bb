use Rattle.std.proofs.Common.{rules, arith}
use Rattle.std.proofs.lemmas.Grind.{common_steps}
use Rattle.memory.specs.Pages.{place_in, IsMade}
use Rattle.memory.proofs.Puts.{pages_all}
use Rattle.memory.proofs.plain.PlainMemory.make_pages.Goals as goal

pub returns-clause-made : goal.returns-clause-made
returns-clause-made c = pages_all (IsMade (place_in c.loop-k.self.directory) c.loop-k.self.pages.items) c.args.a c.args.count c.loop-k.k (search rules) (grind (arith, common_steps)) c.loop-k.invariant.made
