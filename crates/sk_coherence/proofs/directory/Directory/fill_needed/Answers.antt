use Rattle.std.proofs.Common.{◌<◌, ◌≤◌, arith}
use Rattle.sk_coherence_laws.specs.Directory.{copy_at}
use Rattle.sk_copy_states.specs.Sources.{MayRead}
use Rattle.sk_coherence_laws.proofs.AddLemmas.{if_some}
use Rattle.sk_coherence_laws.proofs.ServesLemmas.{serves-trans, grows-trans}
use Rattle.sk_coherence_laws.proofs.TracesLemmas.{filled-trans, filled-wider}
use Rattle.sk_copy_states.proofs.RoomLemmas.{kept-trans}
use Rattle.sk_coherence_laws.proofs.FillSums.{owner-carried, read-more}
use Rattle.sk_coherence.proofs.directory.Directory.fill_needed.Goals as goal

pub fill_next-requires-clause-owned : goal.fill_next-requires-clause-owned
fill_next-requires-clause-owned g c = λ i above below. let v = c.parts.invariant in
    owner-carried c.args.self.now c.parts.self c.args.copy.id i v.serves v.stays (c.requires.owned i (omega (arith, v.above, above)) below)

pub returns-in_err-next-clause-serves : goal.returns-in_err-next-clause-serves
returns-in_err-next-clause-serves g c =
    serves-trans c.args.self.now c.parts.self c.fill_next.new.self c.is_sound.ensures c.parts.invariant.serves c.fill_next.ensures.serves

pub returns-in_err-next-clause-traced : goal.returns-in_err-next-clause-traced
returns-in_err-next-clause-traced g c =
    filled-trans c.args.self.now c.parts.self c.fill_next.new.self c.args.copy.id c.args.need.lo c.args.need.hi c.parts.invariant.stays.home c.parts.invariant.traced
    (filled-wider c.parts.self c.fill_next.new.self c.args.copy.id c.parts.lo c.args.need.hi c.args.need.lo c.args.need.hi c.parts.invariant.above (omega arith) c.fill_next.ensures.traced)

pub parts-preserved : goal.parts-preserved
parts-preserved g c =
    let v = c.parts.invariant in
    let n = c.fill_next.new.self in
    let part : (c.parts.lo < c.in-Some.next) × (c.in-Some.next ≤ c.args.need.hi) × MayRead (copy_at n c.args.copy.id) c.parts.lo c.in-Some.next
    = if_some c.in_ok-next.field-0 c.in-Some.next (λ lo. (c.parts.lo < lo) × (lo ≤ c.args.need.hi) × MayRead (copy_at n c.args.copy.id) c.parts.lo lo) c.in-Some.is c.in_ok-next.ensures.part in
    record {
      above = omega (arith, v.above, part.0);
      below = part.1;
      serves = serves-trans c.args.self.now c.parts.self n c.is_sound.ensures v.serves c.fill_next.ensures.serves;
      traced = filled-trans c.args.self.now c.parts.self n c.args.copy.id c.args.need.lo c.args.need.hi c.parts.invariant.stays.home c.parts.invariant.traced
          (filled-wider c.parts.self n c.args.copy.id c.parts.lo c.args.need.hi c.args.need.lo c.args.need.hi c.parts.invariant.above (omega arith) c.fill_next.ensures.traced);
      stays = grows-trans c.args.self.now c.parts.self n c.args.copy.id v.stays c.fill_next.ensures.stays;
      grows = λ q. grows-trans c.args.self.now c.parts.self n q (v.grows q) (c.fill_next.ensures.grows q);
      others = λ q ne. kept-trans (copy_at c.args.self.now q) (copy_at c.parts.self q) (copy_at n q) (v.others q ne) (c.fill_next.ensures.others q ne);
      done = read-more c.parts.self n c.args.copy.id c.args.need.lo c.parts.lo c.in-Some.next c.fill_next.ensures.stays v.done part.2;
    }

pub returns-in-None-clause-serves : goal.returns-in-None-clause-serves
returns-in-None-clause-serves g c =
    serves-trans c.args.self.now c.parts.self c.fill_next.new.self c.is_sound.ensures c.parts.invariant.serves c.fill_next.ensures.serves

pub returns-in-None-clause-traced : goal.returns-in-None-clause-traced
returns-in-None-clause-traced g c =
    filled-trans c.args.self.now c.parts.self c.fill_next.new.self c.args.copy.id c.args.need.lo c.args.need.hi c.parts.invariant.stays.home c.parts.invariant.traced
    (filled-wider c.parts.self c.fill_next.new.self c.args.copy.id c.parts.lo c.args.need.hi c.args.need.lo c.args.need.hi c.parts.invariant.above (omega arith) c.fill_next.ensures.traced)

pub returns-in_err-next-clause-grows : goal.returns-in_err-next-clause-grows
returns-in_err-next-clause-grows g c = λ q.
    grows-trans c.args.self.now c.parts.self c.fill_next.new.self q (c.parts.invariant.grows q) (c.fill_next.ensures.grows q)

pub returns-in_err-next-clause-others : goal.returns-in_err-next-clause-others
returns-in_err-next-clause-others g c = λ q ne. let n = c.fill_next.new.self in
    kept-trans (copy_at c.args.self.now q) (copy_at c.parts.self q) (copy_at n q) (c.parts.invariant.others q ne) (c.fill_next.ensures.others q ne)

pub returns-in-None-clause-grows : goal.returns-in-None-clause-grows
returns-in-None-clause-grows g c = λ q.
    grows-trans c.args.self.now c.parts.self c.fill_next.new.self q (c.parts.invariant.grows q) (c.fill_next.ensures.grows q)

pub returns-in-None-clause-others : goal.returns-in-None-clause-others
returns-in-None-clause-others g c = λ q ne. let n = c.fill_next.new.self in
    kept-trans (copy_at c.args.self.now q) (copy_at c.parts.self q) (copy_at n q) (c.parts.invariant.others q ne) (c.fill_next.ensures.others q ne)
