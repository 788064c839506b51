use Rattle.std.proofs.Common.{◌≡◌, true, [], map, arith}
use Rattle.std.proofs.lemmas.List.{length-map}
use Rattle.spec_moo.specs.Natives.Rows.{all_fit}
use Rattle.builtin_table.specs.Functions.{row_of_function}
use Rattle.builtin_table.specs.Sorts.{sort_of}
use Rattle.builtin_table.proofs.Fitting.{fits_in_turn}
use Rattle.builtin_table.proofs.world_function.WorldFunction.check.Goals as goal

pub returns-clause-fit : goal.returns-clause-fit
returns-clause-fit c =
    let all : all_fit [] (map sort_of c.sorts-sorts.result.now) c.args.arguments.now ≡ true = cc (c.all_of.ensures, c.if-not-all_of.false) in
    fits_in_turn (row_of_function c.args.self).wanted (row_of_function c.args.self).further (map sort_of c.sorts-sorts.result.now) c.args.arguments.now
    (omega (arith, c.if-arguments-wanted.false, c.wanted.ensures)) (omega (arith, c.if-arguments-sorts.false, length-map c.sorts-sorts.result.now sort_of)) c.sorts-sorts.ensures all
