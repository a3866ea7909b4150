-- Two words of which the first is `run` ask for the second, and no others ask for anything.
use Rattle.std.proofs.Common.{◌∙◌, ℕ, List, sym, ap, string_bytes}
use Rattle.sk_cli.specs.Answer.{Run, run_of_file}
use Rattle.sk_cli.proofs.AskedLemmas.{asked-run, asked-other, asked-count}
use Rattle.sk_cli.proofs.words.asked.Goals as goal
use Rattle.sk_cli.proofs.words.asked.Goals.{else-words-eq2-via-then-words-eq2+else-eq, else-words-eq2-via-else-words-eq2}

pub returns-then-eq-clause-run : goal.returns-then-eq-clause-run
returns-then-eq-clause-run c =
    asked-run string_bytes c.args.words.now c.index-words-0.result c.index-words-1.result c.if-words-eq2.true
    c.index-words-0.is c.index-words-1.is (rw (← c.as_str.ensures.value) (sym c.eq.ensures ∙ c.if-eq.true))
    ∙ ap (λ (name : List ℕ). Run (run_of_file name)) (sym c.as_str-then-eq.ensures.value)

pub returns-else-words-eq2-clause-usage : goal.returns-else-words-eq2-clause-usage
returns-else-words-eq2-clause-usage c = elim c.else-words-eq2.branch [
  | else-words-eq2-via-then-words-eq2+else-eq w ↦
      asked-other string_bytes c.args.words.now w.index-words-0.result w.index-words-0.is
      (rw (← w.as_str.ensures.value) (sym w.eq.ensures ∙ w.if-eq.false))
  | else-words-eq2-via-else-words-eq2 w ↦ asked-count string_bytes c.args.words.now w.if-words-eq2.false
]
