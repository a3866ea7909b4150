use Rattle.std.proofs.Common.{arith, ap}
use Rattle.sk_messages.specs.Messages.{flying_in}
use Rattle.sk_messages.specs.Slots.{mails_in}
use Rattle.sk_messages.proofs.MailLemmas.{forgets}
use Rattle.sk_messages.proofs.SlotLemmas.{flying_mails}
use Rattle.sk_messages.proofs.messages.Messages.forget.Goals as goal

pub returns-then-self-eq0-clause-same : goal.returns-then-self-eq0-clause-same
returns-then-self-eq0-clause-same c =
    forgets c.args.self.now _ (omega (arith, ap flying_in c.self.view_is, flying_mails c.self.inside.pool.items c.self.inside.slots.items)) c.next-self-inside.ensures
    (ap (mails_in c.clear-then-self-eq0.new.self.items) c.clear.ensures.items)
