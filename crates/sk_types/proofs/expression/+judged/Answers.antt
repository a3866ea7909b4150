use Rattle.std.proofs.Common.{◌∙◌, ap}
use Rattle.sk_typing.specs.TypingExpressions.{judged_of, judging_step}
use Rattle.sk_tree.specs.FoldLaws.{folds-Binary, folds-Both, folds-Either, folds-Choose, folds-Apply}
use Rattle.sk_types.specs.Told.{seen}
use Rattle.sk_types.proofs.ToldLemmas.{two_kept, three_kept, applied_kept}
use Rattle.sk_types.proofs.expression.+judged.Goals as goal

pub judge-returns-in_ok-other-in-Binary : goal.judge-returns-in_ok-other-in-Binary
judge-returns-in_ok-other-in-Binary t c =
    two_kept c.args.expr.now c.in-Binary.left c.in-Binary.right
    (ap judged_of c.in-Binary.is ∙ folds-Binary judging_step c.in-Binary.field-0 c.in-Binary.left c.in-Binary.right)
    (seen c.args.around.now) c.args.scopes.now c.in_ok-one-in-Binary.one c.in_ok-other-in-Binary.other c.value-in-Binary.result
    (rw (← c.get-in-Binary.ensures) c.in_ok-one-in-Binary.ensures)
    (rw (← c.get-in-Binary-2.ensures) c.in_ok-other-in-Binary.ensures)
    (rw (← c.earlier.ensures) c.value-in-Binary.ensures)

pub judge-returns-in_ok-other-in-Both : goal.judge-returns-in_ok-other-in-Both
judge-returns-in_ok-other-in-Both t c =
    two_kept c.args.expr.now c.in-Both.left c.in-Both.right
    (ap judged_of c.in-Both.is ∙ folds-Both judging_step c.in-Both.left c.in-Both.right)
    (seen c.args.around.now) c.args.scopes.now c.in_ok-one-in-Both.one c.in_ok-other-in-Both.other c.value-in-Both.result
    (rw (← c.get-in-Both.ensures) c.in_ok-one-in-Both.ensures)
    (rw (← c.get-in-Both-2.ensures) c.in_ok-other-in-Both.ensures)
    (rw (← c.earlier-in-Both.ensures) c.value-in-Both.ensures)

pub judge-returns-in_ok-other-in-Either : goal.judge-returns-in_ok-other-in-Either
judge-returns-in_ok-other-in-Either t c =
    two_kept c.args.expr.now c.in-Either.left c.in-Either.right
    (ap judged_of c.in-Either.is ∙ folds-Either judging_step c.in-Either.left c.in-Either.right)
    (seen c.args.around.now) c.args.scopes.now c.in_ok-one-in-Either.one c.in_ok-other-in-Either.other c.value-in-Either.result
    (rw (← c.get-in-Either.ensures) c.in_ok-one-in-Either.ensures)
    (rw (← c.get-in-Either-2.ensures) c.in_ok-other-in-Either.ensures)
    (rw (← c.earlier-in-Either.ensures) c.value-in-Either.ensures)

pub judge-returns-in_ok-left-in-Choose : goal.judge-returns-in_ok-left-in-Choose
judge-returns-in_ok-left-in-Choose t c =
    three_kept c.args.expr.now c.in-Choose.test c.in-Choose.one c.in-Choose.other
    (ap judged_of c.in-Choose.is ∙ folds-Choose judging_step c.in-Choose.test c.in-Choose.one c.in-Choose.other)
    (seen c.args.around.now) c.args.scopes.now c.in_ok-tested-in-Choose.tested c.in_ok-chosen-in-Choose.chosen c.in_ok-left-in-Choose.left
    c.value-in-Choose.result
    (rw (← c.get-in-Choose.ensures) c.in_ok-tested-in-Choose.ensures)
    (rw (← c.get-in-Choose-2.ensures) c.in_ok-chosen-in-Choose.ensures)
    (rw (← c.get-in-Choose-3.ensures) c.in_ok-left-in-Choose.ensures)
    (rw (← c.earlier-in-Choose.ensures, ← c.earlier-in-Choose-2.ensures) c.value-in-Choose.ensures)

pub judge-returns-in_ok-least-in-Apply : goal.judge-returns-in_ok-least-in-Apply
judge-returns-in_ok-least-in-Apply t c =
    applied_kept c.args.expr.now c.in-Apply.name c.in-Apply.arguments
    (ap judged_of c.in-Apply.is ∙ folds-Apply judging_step c.in-Apply.name c.in-Apply.arguments)
    (seen c.args.around.now) c.args.scopes.now c.value-in-Apply.result c.in_ok-kept-in-Apply.kept
    (rw (← c.as_slice.ensures) c.in_ok-kept-in-Apply.ensures)
    (rw (← c.as_bytes-in-Apply.ensures, ← c.find-known-in-Apply.ensures, ← c.as_slice-in-Apply.ensures, ← c.in_ok-least-in-Apply.ensures) c.value-in-Apply.ensures)
