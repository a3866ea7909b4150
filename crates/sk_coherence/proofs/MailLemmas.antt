-- A message that comes, by what is kept of it.
use Rattle.std.proofs.Common.{◌≡◌, ◌≢◌, ℕ, ℤ, ◌+◌, ◌<◌, List, Option, None, Some, IfSome, IsSome, IsSomeAnd, option_map, refl, sym, subst}
use Rattle.sk_spaces.specs.declared.step.Step.TheVariants.{Deliver}
use Rattle.sk_spaces.specs.Blocks.{written}
use Rattle.sk_spaces.specs.Spaces.{Changes}
use Rattle.sk_copy_states.specs.Copies.{FillsAt, IsReady, expected_in}
use Rattle.sk_messages.specs.declared.slots.Sent.{Sent}
use Rattle.sk_messages.specs.Messages.{Mail, Takes}
use Rattle.sk_messages.specs.Slots.{IsSent}
use Rattle.sk_coherence_laws.specs.Directory.{DirectoryView, copy_at, cells_of_copy, mail_at, IsSound}
use Rattle.sk_coherence_laws.specs.Traced.{TracesStep}
use Rattle.sk_coherence_laws.specs.Sends.{Delivers, KeepsSends}
use Rattle.sk_coherence_laws.proofs.FlyingLemmas.{step_aside, step_spare, one_expected, target_ready}
use Rattle.sk_coherence_laws.proofs.DeliverLemmas.{Arrives, arrives-so, delivers-so, sound-delivered, keeps-sends, traced-delivered}

-- a message that was found
module _ (d : DirectoryView) (number : ℕ) (sent : Sent) (sound : IsSound d) (found : IsSomeAnd (mail_at d number) (λ mail. IsSent mail sent))
    (there : IfSome (mail_at d number) (λ mail. IsSome (copy_at d mail.target))) where
  mail_found : (mail : Mail) × (mail_at d number ≡ Some mail) × IsSent mail sent
  mail_found = on (mail_at d number) refl found
    where
      on : (o : Option Mail) → mail_at d number ≡ o → IsSomeAnd o (λ mail. IsSent mail sent) → (mail : Mail) × (mail_at d number ≡ Some mail) × IsSent mail sent
      on None same is = absurd is
      on (Some mail) same is = (mail, same, is)

  -- what holds of it
  of_mail : (P : Mail → Type 0) → IfSome (mail_at d number) P → P mail_found.0
  of_mail P holds = subst (λ (o : Option Mail). IfSome o P) mail_found.1 holds

  target_there : IsSome (copy_at d mail_found.0.target)
  target_there = of_mail (λ mail. IsSome (copy_at d mail.target)) there

  pub found-ready : IsReady 1 (copy_at d sent.target)
  found-ready = subst (λ (x : ℕ). IsReady 1 (copy_at d x)) (sym mail_found.2.target) (target_ready d number mail_found.0 sound mail_found.1 target_there)

  pub found-expected : 0 < expected_in (copy_at d sent.target)
  found-expected = subst (λ (x : ℕ). 0 < expected_in (copy_at d x)) (sym mail_found.2.target) (one_expected d number mail_found.0 sound mail_found.1 target_there)

  pub found-aside : 0 < d.aside
  found-aside = step_aside d number mail_found.0 sound mail_found.1 target_there

  pub found-spare : 0 < d.spaces.journal.spare
  found-spare = step_spare d number mail_found.0 sound mail_found.1 target_there

  -- and comes
  module _ (n : DirectoryView) (cells : List ℤ) (cells_is : IfSome (mail_at d number) (λ mail. cells ≡ mail.cells))
      (fills : FillsAt (copy_at d sent.target) (copy_at n sent.target) sent.range.lo sent.range.hi)
      (others : (q : ℕ) → q ≢ sent.target → copy_at n q ≡ copy_at d q)
      (changes : Changes d.spaces n.spaces sent.target (option_map (written sent.range.lo cells) (cells_of_copy d sent.target)) None (Deliver number))
      (takes : IfSome (mail_at d number) (Takes d.messages n.messages number))
      (stores : n.stores ≡ d.stores) (next : n.next ≡ d.next) (owed : n.owed ≡ d.owed) (ready : n.ready ≡ d.ready) (named : n.named ≡ d.named)
      (aside : n.aside + 1 ≡ d.aside) where
    came : Arrives d n number mail_found.0
    came = arrives-so d n number mail_found.0 sent.target sent.range.lo sent.range.hi cells mail_found.2.target mail_found.2.lo mail_found.2.hi
        (of_mail (λ mail. cells ≡ mail.cells) cells_is) fills others changes (of_mail (λ mail. Takes d.messages n.messages number mail) takes)
        stores next owed ready named aside

    pub comes-sound : IsSound n
    comes-sound = sound-delivered d n number mail_found.0 sound target_there came

    pub comes-delivered : IfSome (mail_at d number) (Delivers d n number)
    comes-delivered = subst (λ (o : Option Mail). IfSome o (Delivers d n number)) (sym mail_found.1) (delivers-so d n number mail_found.0 sound target_there came)

    pub comes-left : KeepsSends d n
    comes-left = keeps-sends d n number mail_found.0 sound target_there came

    pub comes-traced : TracesStep d n (Deliver number)
    comes-traced = traced-delivered d n number mail_found.0 sound target_there came
