use Rattle.std.proofs.Common.{List, ◌<◌, Option, IfSome, IsSome, arith, sym, subst}
use Rattle.sk_spaces.specs.Machine.{Home}
use Rattle.sk_copies.specs.declared.Transfer.{Transfer}
use Rattle.sk_coherence_laws.proofs.FillSums.{owner-carried}
use Rattle.sk_coherence_laws.proofs.ServesLemmas.{serves-trans}
use Rattle.sk_coherence_laws.proofs.TracedWrite.{some_home}
use Rattle.sk_coherence_laws.specs.Directory.{copy_at}
use Rattle.sk_coherence.specs.Evicts.{IsFar}
use Rattle.sk_coherence.specs.Later.{AreLeft}
use Rattle.sk_coherence.proofs.LaterLemmas.{grows-more, left-step, looked-bounds, served-trans, served-wider}
use Rattle.sk_coherence.proofs.PinnedLemmas.{far-trans}
use Rattle.sk_coherence.proofs.LeftLemmas.{hosts-made, hosts-trans}
use Rattle.sk_coherence.proofs.directory.Directory.look_needed.Goals as goal

pub look-requires-clause-owned : goal.look-requires-clause-owned
look-requires-clause-owned g c = λ i above below. let v = c.parts.invariant in let id = c.args.copy.id in
    owner-carried c.args.self.now c.parts.self id i v.serves (v.grows id c.requires.there) (c.requires.owned i (omega (arith, v.above, above)) below)

pub returns-in_err-looked-clause-serves : goal.returns-in_err-looked-clause-serves
returns-in_err-looked-clause-serves g c =
    let a = c.args.self.now in
    let b = c.parts.self in
    let n = c.look.new.self in
    let v = c.parts.invariant in
    serves-trans a b n c.is_sound.ensures v.serves c.look.ensures.serves

pub returns-in_err-looked-clause-traced : goal.returns-in_err-looked-clause-traced
returns-in_err-looked-clause-traced g c =
    let a = c.args.self.now in
    let b = c.parts.self in
    let n = c.look.new.self in
    let v = c.parts.invariant in
    served-trans a b n c.args.copy.id c.args.need.lo c.args.need.hi v.serves (hosts-made a b v.made) (v.grows c.args.copy.id c.requires.there).home v.traced
    (served-wider b n c.args.copy.id c.parts.lo c.args.need.hi c.args.need.lo c.args.need.hi v.above (omega arith) c.look.ensures.traced)

pub returns-in_err-looked-clause-grows : goal.returns-in_err-looked-clause-grows
returns-in_err-looked-clause-grows g c =
    let a = c.args.self.now in
    let b = c.parts.self in
    let n = c.look.new.self in
    let v = c.parts.invariant in
    grows-more a b n v.grows c.look.ensures.grows

pub returns-in_err-keep-clause-serves : goal.returns-in_err-keep-clause-serves
returns-in_err-keep-clause-serves g c =
    let a = c.args.self.now in
    let b = c.parts.self in
    let n = c.look.new.self in
    let v = c.parts.invariant in
    serves-trans a b n c.is_sound.ensures v.serves c.look.ensures.serves

pub returns-in_err-keep-clause-traced : goal.returns-in_err-keep-clause-traced
returns-in_err-keep-clause-traced g c =
    let a = c.args.self.now in
    let b = c.parts.self in
    let n = c.look.new.self in
    let v = c.parts.invariant in
    served-trans a b n c.args.copy.id c.args.need.lo c.args.need.hi v.serves (hosts-made a b v.made) (v.grows c.args.copy.id c.requires.there).home v.traced
    (served-wider b n c.args.copy.id c.parts.lo c.args.need.hi c.args.need.lo c.args.need.hi v.above (omega arith) c.look.ensures.traced)

pub returns-in_err-keep-clause-grows : goal.returns-in_err-keep-clause-grows
returns-in_err-keep-clause-grows g c =
    let a = c.args.self.now in
    let b = c.parts.self in
    let n = c.look.new.self in
    let v = c.parts.invariant in
    grows-more a b n v.grows c.look.ensures.grows

pub parts-preserved : goal.parts-preserved
parts-preserved g c =
    let a = c.args.self.now in
    let b = c.parts.self in
    let n = c.look.new.self in
    let v = c.parts.invariant in
    let id = c.args.copy.id in
    let need = c.args.need in
    let looked = c.in_ok-looked.looked in
    let is = c.in_ok-looked.ensures.looked in
    let bounds = looked-bounds n id c.parts.lo need.hi looked.hi looked.transfer is in
    let home = (v.grows id c.requires.there).home in
    let there : IsSome (copy_at b id) = some_home (copy_at a id) (copy_at b id) (sym home) c.requires.there in
    let far : IsFar (copy_at b id) = subst (λ (h : Option Home). IfSome h (λ home. 0 < home.space)) (sym home) c.requires.far in
    record {
      above = omega (arith, v.above, bounds.0);
      below = bounds.1;
      serves = serves-trans a b n c.is_sound.ensures v.serves c.look.ensures.serves;
      traced = served-trans a b n c.args.copy.id c.args.need.lo c.args.need.hi v.serves (hosts-made a b v.made) (v.grows c.args.copy.id c.requires.there).home v.traced
          (served-wider b n c.args.copy.id c.parts.lo c.args.need.hi c.args.need.lo c.args.need.hi v.above (omega arith) c.look.ensures.traced);
      grows = grows-more a b n v.grows c.look.ensures.grows;
      others = far-trans a b n id v.others c.look.ensures.others;
      made = hosts-trans a b n v.serves c.look.ensures.serves v.made c.look.ensures.made;
      left = subst (λ (ts : List Transfer). AreLeft n id need.lo looked.hi ts) (sym c.in_ok-keep.ensures)
          (left-step b n id need.lo c.parts.lo need.hi looked.hi c.parts.transfers.items looked.transfer c.look.ensures.grows c.look.ensures.before there far
          c.look.ensures.others c.look.ensures.made c.look.ensures.serves v.above v.left is);
    }

pub returns-in_err-looked-clause-others : goal.returns-in_err-looked-clause-others
returns-in_err-looked-clause-others g c =
    far-trans c.args.self.now c.parts.self c.look.new.self c.args.copy.id c.parts.invariant.others c.look.ensures.others

pub returns-in_err-keep-clause-others : goal.returns-in_err-keep-clause-others
returns-in_err-keep-clause-others g c =
    far-trans c.args.self.now c.parts.self c.look.new.self c.args.copy.id c.parts.invariant.others c.look.ensures.others

pub returns-in_err-looked-clause-made : goal.returns-in_err-looked-clause-made
returns-in_err-looked-clause-made g c = let v = c.parts.invariant in
    hosts-trans c.args.self.now c.parts.self c.look.new.self v.serves c.look.ensures.serves v.made c.look.ensures.made

pub returns-in_err-keep-clause-made : goal.returns-in_err-keep-clause-made
returns-in_err-keep-clause-made g c = let v = c.parts.invariant in
    hosts-trans c.args.self.now c.parts.self c.look.new.self v.serves c.look.ensures.serves v.made c.look.ensures.made
