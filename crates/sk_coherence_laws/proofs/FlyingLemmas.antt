-- What there is for a message in flight: the room of its delivery, and the block of its copy.
use Rattle.std.proofs.Common.{◌≡◌, ℕ, ◌+◌, ◌-◌, ◌<◌, ◌≤◌, if◌then◌else◌, List, Bool, true, false, length, slice_get, sum_by, nat_lt, Option, Some, None, IfSome, IsSome, arith, ⊎_elim, refl, sym, subst, ◌∙◌, ap}
use Rattle.std.proofs.lemmas.Bool.{cases_lt}
use Rattle.std.proofs.lemmas.List.{get_or_past}
use Rattle.std.proofs.lemmas.List.Sums.{get_or-le-sum_by}
use Rattle.std.proofs.lemmas.Option.{get_or_from_slice_get}
use Rattle.std.proofs.Math.ListN.{get_or}
use Rattle.sk_spaces.specs.Blocks.{Reaches}
use Rattle.sk_copy_states.specs.declared.held.Held.{Held}
use Rattle.sk_copy_states.specs.Held.{IsFit}
use Rattle.sk_copy_states.specs.Copies.{ReachesIn, IsReady, home_in, store_in, expected_in}
use Rattle.sk_copy_states.specs.Stores.{changes_in}
use Rattle.sk_messages.specs.Messages.{MessagesView, Mail, mail_of, mail_or_none, flies, flies_to}
use Rattle.sk_coherence_laws.specs.Directory.{DirectoryView, copy_at, store_at, cells_of_copy, mail_at, IsSound, IsMail}
use Rattle.sk_coherence_laws.proofs.SoundWrite.{reaches_block, some_block}
use Rattle.sk_coherence_laws.proofs.SendLemmas.{flies_here}

-- the store of a copy, and how far it reaches, from where a message to it lies
store_of_home : (o : Option Held) (s lo hi : ℕ) → IfSome (home_in o) (λ home. (home.store ≡ s) × (home.lo ≤ lo) × (hi ≤ home.hi))
    → IsSome o → store_in o ≡ Some s
store_of_home None s lo hi is there = cc
store_of_home (Some held) s lo hi is there = ap Some is.0

reaches_of_home : (o : Option Held) (s lo hi : ℕ) → IfSome (home_in o) (λ home. (home.store ≡ s) × (home.lo ≤ lo) × (hi ≤ home.hi))
    → ReachesIn o lo hi
reaches_of_home None s lo hi is = tt
reaches_of_home (Some held) s lo hi is = (is.1, is.2)

-- a message in flight is one of those that are summed
summed_at : (f : Option Mail → ℕ) (mails : List (Option Mail)) (k : ℕ) (o : Option (Option Mail)) (mail : Mail) → slice_get mails k ≡ o → mail_or_none o ≡ Some mail
    → f (Some mail) ≤ sum_by f mails
summed_at f mails k None mail at is = cc
summed_at f mails k (Some x) mail at is =
    let here : get_or mails k None ≡ Some mail = get_or_from_slice_get mails k x None at ∙ is in
    ⊎_elim
    (λ (below : k < length mails). omega (arith, get_or-le-sum_by f mails k None below, ap f here))
    (λ (above : length mails ≤ k). let past : get_or mails k None ≡ None = get_or_past mails k None above in cc)
    (cases_lt k (length mails))

pub summed : (f : Option Mail → ℕ) (messages : MessagesView) (number : ℕ) (mail : Mail) → mail_of messages number ≡ Some mail → f (Some mail) ≤ sum_by f messages.mails
summed f messages number mail is = by (nat_lt number messages.first) is
  where
    by : (t : Bool) → (if t then None else mail_or_none (slice_get messages.mails (number - messages.first))) ≡ Some mail → f (Some mail) ≤ sum_by f messages.mails
    by true none = cc
    by false found = summed_at f messages.mails (number - messages.first) (slice_get messages.mails (number - messages.first)) mail refl found

ready_filled : (d : DirectoryView) (o : Option Held) → IfSome o IsFit → 0 < expected_in o
    → IfSome o (λ held. changes_in (store_at d held.store) + held.expected ≤ held.states.reserved) → IsReady 1 o
ready_filled d None fit some room = tt
ready_filled d (Some held) fit some room = (fit, omega (arith, some, room))

-- what there is for a message in flight whose copy is there still
module _ (d : DirectoryView) (number : ℕ) (mail : Mail) (sound : IsSound d) (flying : mail_at d number ≡ Some mail) (there : IsSome (copy_at d mail.target)) where
  pub is_mail : IsMail d.spaces.memories.next d.next (copy_at d) (cells_of_copy d) mail
  is_mail = subst (λ (o : Option Mail). IfSome o (IsMail d.spaces.memories.next d.next (copy_at d) (cells_of_copy d))) flying (sound.mailed.mails number)

  pub of_store : store_in (copy_at d mail.target) ≡ Some mail.store
  of_store = store_of_home (copy_at d mail.target) mail.store mail.lo mail.hi is_mail.target there

  pub target_reaches : ReachesIn (copy_at d mail.target) mail.lo mail.hi
  target_reaches = reaches_of_home (copy_at d mail.target) mail.store mail.lo mail.hi is_mail.target

  pub block_there : IsSome (cells_of_copy d mail.target)
  block_there = some_block (copy_at d mail.target) (cells_of_copy d mail.target) (sound.tied mail.target) there

  pub block_reaches : IfSome (cells_of_copy d mail.target) (Reaches mail.lo (mail.lo + length mail.cells))
  block_reaches = reaches_block (copy_at d mail.target) (cells_of_copy d mail.target) mail.lo (mail.lo + length mail.cells) (omega arith) (sound.tied mail.target)
      (subst (λ (x : ℕ). ReachesIn (copy_at d mail.target) mail.lo x) (sym is_mail.whole) target_reaches)

  -- the room of its delivery
  pub step_aside : 0 < d.aside
  step_aside = omega (arith, sound.mailed.steps, summed flies d.messages number mail flying)

  pub step_spare : 0 < d.spaces.journal.spare
  step_spare = omega (arith, step_aside, sound.ready)

  pub one_expected : 0 < expected_in (copy_at d mail.target)
  one_expected = omega (arith, sound.mailed.deliveries mail.target there, summed (flies_to mail.target) d.messages number mail flying, flies_here mail mail.target refl)

  pub target_ready : IsReady 1 (copy_at d mail.target)
  target_ready = ready_filled d (copy_at d mail.target) (sound.fit mail.target) one_expected (sound.room mail.target)
