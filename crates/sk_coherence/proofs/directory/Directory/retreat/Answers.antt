use Rattle.std.proofs.Common.{◌≡◌, ℕ, ◌<◌, ◌≤◌, Option, Some, None, IfSome, IsSome, arith, sym, subst}
use Rattle.sk_copy_states.specs.declared.held.Held.{Held}
use Rattle.sk_copy_states.specs.Copies.{ReachesIn}
use Rattle.sk_coherence_laws.specs.Directory.{DirectoryView, copy_at}
use Rattle.sk_coherence_laws.proofs.ServesLemmas.{idle-none}
use Rattle.sk_coherence_laws.proofs.TracedWrite.{some_home}
use Rattle.sk_coherence.specs.Evicts.{Retreats}
use Rattle.sk_coherence.proofs.RetreatLemmas.{retreats-trans, retreats-idle, reaches_on}
use Rattle.sk_coherence.proofs.WayLemmas.{owner_within, none_more}
use Rattle.sk_coherence.proofs.directory.Directory.retreat.Goals as goal

-- the whole block is reached
reaches_all : (o : Option Held) (lo hi from : ℕ) → IsSome o → IfSome o (λ held. (lo ≡ held.lo) × (hi ≡ held.hi)) → lo ≤ from → ReachesIn o from hi
reaches_all None lo hi from there is above = tt
reaches_all (Some held) lo hi from there is above = (omega (arith, is.0, above), omega (arith, is.1))

there_now : (a b : DirectoryView) (copy : ℕ) → Retreats a b copy → IsSome (copy_at a copy) → IsSome (copy_at b copy)
there_now a b copy r there = some_home (copy_at a copy) (copy_at b copy) (sym (r.stays copy there).home) there

pub retreat_next-requires-clause-there : goal.retreat_next-requires-clause-there
retreat_next-requires-clause-there g c = there_now c.args.self.now c.parts.self c.args.copy.id c.parts.invariant.retreats c.requires.there

pub retreat_next-requires-clause-far : goal.retreat_next-requires-clause-far
retreat_next-requires-clause-far g c = let v = c.parts.invariant in
    subst (λ h. IfSome h (λ home. 0 < home.space)) (sym (v.retreats.stays c.args.copy.id c.requires.there).home) c.requires.far

pub retreat_next-requires-clause-reaches : goal.retreat_next-requires-clause-reaches
retreat_next-requires-clause-reaches g c = let v = c.parts.invariant in let b = c.block-block.result in
    reaches_on (copy_at c.args.self.now c.args.copy.id) (copy_at c.parts.self c.args.copy.id) c.parts.lo b.hi b.hi (v.retreats.stays c.args.copy.id c.requires.there).home (omega arith)
    (reaches_all (copy_at c.args.self.now c.args.copy.id) b.lo b.hi c.parts.lo c.requires.there c.block-block.ensures v.above)

pub parts-init : goal.parts-init
parts-init g c = record {
  above = omega arith;
  below = c.block-block.result.ordered;
  retreats = retreats-idle c.args.self.now c.args.self.now c.args.copy.id (idle-none c.args.self.now);
  none = λ i above below. absurd (omega (arith, above, below));
}

pub parts-preserved : goal.parts-preserved
parts-preserved g c = let v = c.parts.invariant in let n = c.retreat_next.new.self in let p = c.in_ok-next.ensures.part in record {
  above = omega (arith, v.above, p.0);
  below = p.1;
  retreats = retreats-trans c.args.self.now c.parts.self n c.args.copy.id c.is_sound.ensures v.retreats c.retreat_next.ensures.retreats;
  none = none_more c.args.self.now c.parts.self n c.args.copy.id c.block-block.result.lo c.parts.lo c.in_ok-next.next c.retreat_next.ensures.retreats v.none p.2;
}

pub returns-in_err-next-clause-retreats : goal.returns-in_err-next-clause-retreats
returns-in_err-next-clause-retreats g c =
    retreats-trans c.args.self.now c.parts.self c.retreat_next.new.self c.args.copy.id c.is_sound.ensures c.parts.invariant.retreats c.retreat_next.ensures.retreats

pub returns-clause-ok : goal.returns-clause-ok
returns-clause-ok g c = let v = c.parts.invariant in let id = c.args.copy.id in let b = c.block-block.result in λ i own.
    let w = owner_within (copy_at c.args.self.now id) i b.lo b.hi (c.is_sound.ensures.fit id) c.block-block.ensures (v.retreats.owns i own) in
    v.none i w.0 (omega (arith, w.1, v.below)) own
