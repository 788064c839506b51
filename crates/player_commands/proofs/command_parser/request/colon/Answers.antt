use Rattle.std.proofs.Common.{add-one, arith}
use Rattle.player_commands.proofs.Requests.{colon_here, colon_nowhere}
use Rattle.player_commands.proofs.command_parser.request.colon.Goals as goal

pub returns-then-byte-eq58 : goal.returns-then-byte-eq58
returns-then-byte-eq58 c =
    rw add-one (omega arith, colon_here c.args.text.now c.loop-index.index (omega arith) c.loop-index.invariant c.if-byte-eq58.true)

pub returns : goal.returns
returns c = colon_nowhere c.args.text.now (λ j lt. c.loop-index.invariant j (omega arith))
