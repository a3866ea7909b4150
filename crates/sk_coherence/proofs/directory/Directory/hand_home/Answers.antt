use Rattle.std.proofs.Common.{ℕ, IfSome, arith, sym, subst}
use Rattle.sk_copy_states.specs.Copies.{home_in}
use Rattle.sk_coherence_laws.specs.Directory.{copy_at}
use Rattle.sk_coherence.specs.Evicts.{OwnsNone, IsBackHome, Retreats}
use Rattle.sk_coherence.proofs.RetreatLemmas.{retreats-trans, retreats-idle, retreats-back, owns_none}
use Rattle.sk_coherence.proofs.directory.Directory.hand_home.Goals as goal

pub returns-in_err-hand_back-clause-retreats : goal.returns-in_err-hand_back-clause-retreats
returns-in_err-hand_back-clause-retreats g c =
    retreats-trans c.args.self.now c.way_back.new.self c.hand_back.new.self c.args.copy.id c.is_sound.ensures c.way_back.ensures.retreats
    (retreats-idle c.way_back.new.self c.hand_back.new.self c.args.copy.id c.in_err-hand_back.ensures.err)

pub returns-clause-retreats : goal.returns-clause-retreats
returns-clause-retreats g c = let w = c.in_ok-way.way in let e = c.in_ok-way.ensures in let b = c.way_back.new.self in let n = c.hand_back.new.self in
    retreats-trans c.args.self.now b n c.args.copy.id c.is_sound.ensures c.way_back.ensures.retreats
    (subst (λ (x : ℕ). Retreats b n x) e.from
    (retreats-back b n w.from.id w.to.id w.range.lo w.range.hi c.is_sound-2.ensures e.can e.owns c.in_ok-hand_back.ensures.ok (omega (arith, e.begins, e.ends.0))
    (subst (λ (x : ℕ). IfSome (home_in (copy_at b w.to.id)) (IsBackHome b x)) (sym e.from) e.back) c.in_ok-hand_back.ensures.traced))

pub returns-clause-part : goal.returns-clause-part
returns-clause-part g c = let w = c.in_ok-way.way in let e = c.in_ok-way.ensures in let b = c.way_back.new.self in let n = c.hand_back.new.self in (
  e.ends.0,
  e.ends.1,
  subst (λ (x : ℕ). OwnsNone (copy_at n x) c.args.run.lo w.range.hi) e.from
      (subst (λ (x : ℕ). OwnsNone (copy_at n w.from.id) x w.range.hi) e.begins
      (owns_none b n w.from.id w.to.id w.range.lo w.range.hi c.is_sound-2.ensures e.can e.owns c.in_ok-hand_back.ensures.ok)),
)
