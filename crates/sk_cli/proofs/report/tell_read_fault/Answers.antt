-- The line that is told is the one that was made.
use Rattle.std.proofs.Common.{◌≡◌, ◌⊎◌, ◌∙◌, ℕ, List, subst}
use Rattle.sk_cli.specs.Answer.{Told}
use Rattle.sk_cli.proofs.report.tell_read_fault.Goals as goal

pub returns-in-Ok-clause-told : goal.returns-in-Ok-clause-told
returns-in-Ok-clause-told g c =
    subst (λ (line : List ℕ). (c.tell.result ≡ 9) ⊎ ((c.tell.result ≡ c.args.status) × Told line (g.E.Sink.holds c.args.err.now) (g.E.Sink.holds c.tell.new.err)))
    (c.as_slice.ensures.value ∙ c.in-Ok.ensures) c.tell.ensures.told
