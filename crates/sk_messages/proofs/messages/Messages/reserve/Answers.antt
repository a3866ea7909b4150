use Rattle.std.proofs.Common.{List, ℤ, ap, ◌∙◌}
use Rattle.sk_messages.specs.Messages.{MessagesView}
use Rattle.sk_messages.specs.Slots.{mails_in}
use Rattle.sk_messages.proofs.MailLemmas.{same_mails, same_trans}
use Rattle.sk_messages.proofs.messages.Messages.reserve.Goals as goal

pub returns-in_err-reserve-2-clause-same : goal.returns-in_err-reserve-2-clause-same
returns-in_err-reserve-2-clause-same c =
    same_trans c.args.self.now c.forget.new.self _ c.forget.ensures.same
    (same_mails c.forget.new.self _ (ap (λ (v : MessagesView). v.first) c.self.view_is)
    (ap (mails_in c.reserve-2.new.self.items) c.reserve.ensures.items ∙ ap (λ (xs : List ℤ). mails_in xs c.self.inside.slots.items) c.reserve-2.ensures.items
    ∙ ap (λ (v : MessagesView). v.mails) c.self.view_is))

pub returns-clause-same : goal.returns-clause-same
returns-clause-same c =
    same_trans c.args.self.now c.forget.new.self _ c.forget.ensures.same
    (same_mails c.forget.new.self _ (ap (λ (v : MessagesView). v.first) c.self.view_is)
    (ap (mails_in c.reserve-2.new.self.items) c.reserve.ensures.items ∙ ap (λ (xs : List ℤ). mails_in xs c.self.inside.slots.items) c.reserve-2.ensures.items
    ∙ ap (λ (v : MessagesView). v.mails) c.self.view_is))
