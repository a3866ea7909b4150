use Rattle.sk_coherence_laws.proofs.NamedMoves.{on_err_any}
use Rattle.sk_container.proofs.MadeLemmas.{undoes-none}
use Rattle.sk_container.proofs.made.open_filled.Goals as goal

pub returns-in_err-cells-clause-err : goal.returns-in_err-cells-clause-err
returns-in_err-cells-clause-err g c = on_err_any c.from_residual.result (undoes-none c.args.dir.now c.is_sound.ensures)
