use Rattle.std.proofs.Common.{sym, ap, ◌∙◌, List, slice_get}
use Rattle.sk_host.proofs.Going.{falls, fits, goes-on, may, over}
use Rattle.sk_host.proofs.run.run.Goals as goal
use Rattle.sk_isa.specs.declared.code.Instr.{Instr}

pub turn-requires-clause-inside : goal.turn-requires-clause-inside
turn-requires-clause-inside g c = fits _ _ _ _ _ _ c.loop-next.invariant

pub turn-requires-clause-needs : goal.turn-requires-clause-needs
turn-requires-clause-needs g c = may _ _ _ _ _ _ c.loop-next.invariant c.instr_at-instr.result.now (ap (λ (is : List Instr). slice_get is c.loop-next.state.stand.at) (sym c.as_slice-instrs.ensures) ∙ c.instr_at-instr.ensures.found)

pub loop-next-smaller : goal.loop-next-smaller
loop-next-smaller g c =
    falls _ _ _ _ _ _ c.loop-next.invariant c.instr_at-instr.result.now (ap (λ (is : List Instr). slice_get is c.loop-next.state.stand.at) (sym c.as_slice-instrs.ensures) ∙ c.instr_at-instr.ensures.found) c.in-Ok.next c.turn.new.stack c.turn.new.slots c.turn.new.store
    (g.O.Sink.holds c.turn.new.out) c.in-Ok.ensures

pub loop-next-preserved : goal.loop-next-preserved
loop-next-preserved g c =
    goes-on _ _ _ _ _ _ c.loop-next.invariant c.instr_at-instr.result.now (ap (λ (is : List Instr). slice_get is c.loop-next.state.stand.at) (sym c.as_slice-instrs.ensures) ∙ c.instr_at-instr.ensures.found) c.in-Ok.next c.turn.new.stack c.turn.new.slots c.turn.new.store
    (g.O.Sink.holds c.turn.new.out) c.in-Ok.ensures c.turn.auto.stack c.turn.auto.store

pub returns-in-Err : goal.returns-in-Err
returns-in-Err g c =
    over _ _ _ _ _ _ c.loop-next.invariant c.instr_at-instr.result.now (ap (λ (is : List Instr). slice_get is c.loop-next.state.stand.at) (sym c.as_slice-instrs.ensures) ∙ c.instr_at-instr.ensures.found) c.in-Err.outcome c.turn.new.stack c.turn.new.slots c.turn.new.store
    (g.O.Sink.holds c.turn.new.out) c.in-Err.ensures
