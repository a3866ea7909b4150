use Rattle.std.proofs.Common.{IsSome, ◌-◌, arith, refl, subst, sym}
use Rattle.sk_messages.specs.Messages.{MessagesView, mail_of}
use Rattle.sk_messages.proofs.MailLemmas.{takes_some}
use Rattle.sk_messages.proofs.SlotLemmas.{flies_there, kept_take, mails_take, some_fly}
use Rattle.sk_messages.proofs.messages.Messages.take.Goals as goal

pub overflow_sub-self : goal.overflow_sub-self
overflow_sub-self c =
    let was = c.self.inside in
    let there = flies_there was.pool.items was.slots.items was.first c.args.number
    (subst (λ (v : MessagesView). IsSome (mail_of v c.args.number)) (sym c.self.view_is) c.requires) in
    omega (arith, some_fly was.slots.items (c.args.number - was.first) there.0 there.1)

pub invariant_of-self : goal.invariant_of-self
invariant_of-self c =
    let was = c.self.inside in
    let there = flies_there was.pool.items was.slots.items was.first c.args.number
    (subst (λ (v : MessagesView). IsSome (mail_of v c.args.number)) (sym c.self.view_is) c.requires) in
    kept_take _ _ _ _ was.slots.items was.pool.items (c.args.number - was.first) there.0 _ _ c.self.invariant there.1

pub returns : goal.returns
returns c = takes_some _ _ _ c.args.number c.self.view_is refl (mails_take c.self.inside.pool.items c.self.inside.slots.items (c.args.number - c.self.inside.first)) refl refl
