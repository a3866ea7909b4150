-- The messages of a directory where its copies change, and where messages are spoilt.
use Rattle.std.proofs.Common.{◌≡◌, ◌≢◌, ℕ, ◌<◌, ◌≤◌, ◌==◌, ◌&&◌, if◌then◌else◌, Bool, true, false, Option, Some, None, IfSome, IsSome, IsSomeAnd, option_map, arith, ⊎_elim, refl, inl, inr, sym, subst, ◌∙◌, ap, ◌⊎◌}
use Rattle.sk_ranges.specs.declared.state.State.TheVariants.{Owner}
use Rattle.sk_spaces.specs.Machine.{Home, CopyState, Message, Fate, flying, delivered, spoilt_fate, do_overlap, spoils, after_change}
use Rattle.sk_spaces.specs.Machine as machine
use Rattle.sk_copy_states.specs.declared.held.Held.{Held}
use Rattle.sk_copy_states.specs.Copies.{home_in, store_in, state_in, expected_in}
use Rattle.sk_messages.specs.Messages.{MessagesView, Mail, mail_of, next_of, flying_in, flying_to, left_of, Spoils}
use Rattle.sk_coherence_laws.specs.Directory.{DirectoryView, copy_at, cells_of_copy, mail_at, IsMail, AreMailed}
use Rattle.sk_coherence_laws.specs.Traced.{HasMessages, IsMessageOf, IsPast, live_home}
use Rattle.sk_coherence_laws.specs.Serves.{HasOwner}

-- a copy lies where it did, with room for as many messages, or has a number that no message can name
abbrev pub StaysOrNew : DirectoryView → DirectoryView → ℕ → Type 0
StaysOrNew d n q = (IsSome (copy_at d q) × (home_in (copy_at n q) ≡ home_in (copy_at d q)) × (expected_in (copy_at n q) ≡ expected_in (copy_at d q)))
    ⊎ (d.spaces.memories.next ≤ q)

-- where a copy lies holds what held of it before, if the copy is there still
home_on : (P : Home → Type 0) (o p : Option Held) → (IsSome p → home_in p ≡ home_in o) → IfSome (home_in o) P → IfSome (home_in p) P
home_on P o None same is = tt
home_on P o (Some held) same is = subst (λ (h : Option Home). IfSome h P) (sym (same refl)) is

-- a message is one still where its copy lies as before, or is gone, and each owner of its cells has an owner's cell of before
pub mail-on : (d n : DirectoryView) (mail : Mail) → d.spaces.memories.next ≤ n.spaces.memories.next → d.next ≤ n.next
    → (IsSome (copy_at n mail.target) → home_in (copy_at n mail.target) ≡ home_in (copy_at d mail.target))
    → ((q i : ℕ) → store_in (copy_at n q) ≡ Some mail.store → state_in (copy_at n q) i ≡ Owner → mail.lo ≤ i → i < mail.hi → HasOwner n d q i)
    → IsMail d.spaces.memories.next d.next (copy_at d) (cells_of_copy d) mail → IsMail n.spaces.memories.next n.next (copy_at n) (cells_of_copy n) mail
mail-on d n mail next next_store home owners is = record {
  whole = is.whole;
  given = omega (arith, is.given, next);
  given_store = omega (arith, is.given_store, next_store);
  target = home_on _ (copy_at d mail.target) (copy_at n mail.target) home is.target;
  equal = λ q i store own above below. let o = owners q i store own above below in
      sym o.cell ∙ is.equal o.at i (o.store ∙ store) o.owns above below;
}

home_of_target : (d n : DirectoryView) (mail : Mail) → mail.target < d.spaces.memories.next
    → ((q : ℕ) → IsSome (copy_at n q) → StaysOrNew d n q)
    → IsSome (copy_at n mail.target) → home_in (copy_at n mail.target) ≡ home_in (copy_at d mail.target)
home_of_target d n mail given stays there = ⊎_elim
    (λ (s : IsSome (copy_at d mail.target) × (home_in (copy_at n mail.target) ≡ home_in (copy_at d mail.target)) × (expected_in (copy_at n mail.target) ≡ expected_in (copy_at d mail.target))). s.1)
    (λ (new : d.spaces.memories.next ≤ mail.target). absurd (omega (arith, given, new)))
    (stays mail.target there)

-- each copy has room for the messages to it, where there are no more of them
deliveries_on : (d n : DirectoryView) → AreMailed d → ((q : ℕ) → flying_to q n.messages ≤ flying_to q d.messages)
    → (q : ℕ) → StaysOrNew d n q → flying_to q n.messages ≤ expected_in (copy_at n q)
deliveries_on d n mailed fewer q stays = ⊎_elim
    (λ (s : IsSome (copy_at d q) × (home_in (copy_at n q) ≡ home_in (copy_at d q)) × (expected_in (copy_at n q) ≡ expected_in (copy_at d q))).
    omega (arith, mailed.deliveries q s.0, s.2, fewer q))
    (λ (new : d.spaces.memories.next ≤ q). omega (arith, mailed.unsent q new, fewer q))
    stays

-- the messages are as before
pub mailed-kept : (d n : DirectoryView) → AreMailed d → n.messages ≡ d.messages → n.aside ≡ d.aside
    → d.spaces.memories.next ≤ n.spaces.memories.next → d.next ≤ n.next
    → ((q : ℕ) → IsSome (copy_at n q) → StaysOrNew d n q)
    → ((q i : ℕ) → state_in (copy_at n q) i ≡ Owner → HasOwner n d q i) → AreMailed n
mailed-kept d n mailed messages aside next next_store stays owners = record {
  mails = λ number. subst (λ (x : MessagesView). IfSome (mail_of x number) (IsMail n.spaces.memories.next n.next (copy_at n) (cells_of_copy n))) (sym messages)
      (on (mail_at d number) (mailed.mails number));
  steps = omega (arith, mailed.steps, ap flying_in messages, aside);
  deliveries = λ q there. deliveries_on d n mailed (λ k. omega (arith, ap (flying_to k) messages)) q (stays q there);
  unsent = λ q above. omega (arith, mailed.unsent q (omega (arith, above, next)), ap (flying_to q) messages);
}
  where
    on : (o : Option Mail) → IfSome o (IsMail d.spaces.memories.next d.next (copy_at d) (cells_of_copy d)) → IfSome o (IsMail n.spaces.memories.next n.next (copy_at n) (cells_of_copy n))
    on None is = tt
    on (Some mail) is = mail-on d n mail next next_store (home_of_target d n mail is.given stays) (λ q i store own above below. owners q i own) is

-- what is left holds what held before, where it follows for each message that is not spoilt
pub left-on : (P Q : Mail → Type 0) (o : Option Mail) (s lo hi : ℕ) → IfSome o P
    → ((mail : Mail) → ((mail.store == s) && do_overlap lo hi mail.lo mail.hi) ≡ false → P mail → Q mail) → IfSome (left_of s lo hi o) Q
left-on P Q None s lo hi is on = tt
left-on P Q (Some mail) s lo hi is on = by ((mail.store == s) && do_overlap lo hi mail.lo mail.hi) refl
  where
    by : (t : Bool) → ((mail.store == s) && do_overlap lo hi mail.lo mail.hi) ≡ t → IfSome (if t then None else Some mail) Q
    by true e = tt
    by false e = on mail e is

-- no message that is not spoilt takes one of the indices
pub not_over : (mail : Mail) (s lo hi i : ℕ) → ((mail.store == s) && do_overlap lo hi mail.lo mail.hi) ≡ false
    → mail.store ≡ s → lo ≤ i → i < hi → mail.lo ≤ i → i < mail.hi → ⊥
not_over mail s lo hi i apart store above below over under = grind (arith, apart, store, above, below, over, under)

-- messages over some indices of a store are spoilt, and the cells of its owners there may differ
pub mailed-spoilt : (d n : DirectoryView) (s lo hi : ℕ) → AreMailed d → Spoils d.messages n.messages s lo hi → n.aside ≡ d.aside
    → d.spaces.memories.next ≤ n.spaces.memories.next → d.next ≤ n.next
    → ((q : ℕ) → IsSome (copy_at n q) → StaysOrNew d n q)
    → ((q i : ℕ) → state_in (copy_at n q) i ≡ Owner → ((store_in (copy_at n q) ≡ Some s) × (lo ≤ i) × (i < hi)) ⊎ HasOwner n d q i) → AreMailed n
mailed-spoilt d n s lo hi mailed spoilt aside next next_store stays owners = record {
  mails = λ number. subst (λ (o : Option Mail). IfSome o (IsMail n.spaces.memories.next n.next (copy_at n) (cells_of_copy n))) (sym (spoilt.left number))
      (left-on _ _ (mail_at d number) s lo hi (mailed.mails number) on);
  steps = omega (arith, mailed.steps, spoilt.flying, aside);
  deliveries = λ q there. deliveries_on d n mailed spoilt.flying_each q (stays q there);
  unsent = λ q above. omega (arith, mailed.unsent q (omega (arith, above, next)), spoilt.flying_each q);
}
  where
    same : (a b : ℕ) → Some a ≡ Some b → a ≡ b
    same a b e = grind (arith, e)

    on : (mail : Mail) → ((mail.store == s) && do_overlap lo hi mail.lo mail.hi) ≡ false
        → IsMail d.spaces.memories.next d.next (copy_at d) (cells_of_copy d) mail → IsMail n.spaces.memories.next n.next (copy_at n) (cells_of_copy n) mail
    on mail apart is = mail-on d n mail next next_store (home_of_target d n mail is.given stays)
        (λ q i store own above below. ⊎_elim
        (λ (x : (store_in (copy_at n q) ≡ Some s) × (lo ≤ i) × (i < hi)).
        absurd (not_over mail s lo hi i apart (same mail.store s (sym store ∙ x.0)) x.1 x.2 above below))
        (λ (o : HasOwner n d q i). o)
        (owners q i own))
        is

-- the machine has the messages still
pub like-mail-same : (messages : ℕ → Option Message) (copies : ℕ → CopyState) (d n : DirectoryView) → HasMessages messages copies d
    → ((number : ℕ) → mail_at n number ≡ mail_at d number) → next_of n.messages ≡ next_of d.messages
    → d.spaces.memories.next ≤ n.spaces.memories.next → HasMessages messages copies n
like-mail-same messages copies d n has same next_message next = record {
  mails = λ number. subst (λ (o : Option Mail). IfSome o (λ mail. IsSomeAnd (messages number) (IsMessageOf mail))) (sym (same number)) (has.mails number);
  past = λ number none. has.past number (sym (same number) ∙ none);
  fresh = λ number above. has.fresh number (omega (arith, above, next_message));
  given = λ number. given_on (messages number) (has.given number);
}
  where
    given_on : (o : Option Message) → IfSome o (λ message. message.target < d.spaces.memories.next) → IfSome o (λ message. message.target < n.spaces.memories.next)
    given_on None below = tt
    given_on (Some message) below = omega (arith, below, next)

pub like-mail-kept : (messages : ℕ → Option Message) (copies : ℕ → CopyState) (d n : DirectoryView) → HasMessages messages copies d → n.messages ≡ d.messages
    → n.spaces.memories.next ≡ d.spaces.memories.next → HasMessages messages copies n
like-mail-kept messages copies d n has same next =
    like-mail-same messages copies d n has (λ number. ap (λ (x : MessagesView). mail_of x number) same) (ap next_of same) (omega (arith, next))

-- the same beside other copies, where no number that was given has a copy again
pub like-mail-beside : (messages : ℕ → Option Message) (copies others : ℕ → CopyState) (d : DirectoryView) → HasMessages messages copies d
    → ((q : ℕ) → q < d.spaces.memories.next → live_home (copies q) ≡ None → live_home (others q) ≡ None) → HasMessages messages others d
like-mail-beside messages copies others d has gone = record {
  mails = has.mails;
  past = λ number none. past_on (messages number) (has.given number) (has.past number none);
  fresh = has.fresh;
  given = has.given;
}
  where
    past_on : (o : Option Message) → IfSome o (λ message. message.target < d.spaces.memories.next) → IfSome o (IsPast copies) → IfSome o (IsPast others)
    past_on None below past = tt
    past_on (Some message) below past = ⊎_elim
        (λ (landed : message.fate ≢ flying). inl landed)
        (λ (lost : live_home (copies message.target) ≡ None). inr (gone message.target below lost))
        past

-- the machine's message with a number that the directory has forgotten
past_left : (copies : ℕ → CopyState) (o : Option Mail) (p : Option Message) (s lo hi : ℕ) → left_of s lo hi o ≡ None
    → (o ≡ None → IfSome p (IsPast copies)) → IfSome o (λ mail. IsSomeAnd p (IsMessageOf mail))
    → IfSome o (λ mail. mail.store ≡ s → live_home (copies mail.target) ≡ None) → IfSome p (IsPast copies)
past_left copies None p s lo hi left past has lost = past refl
past_left copies (Some mail) None s lo hi left past has lost = tt
past_left copies (Some mail) (Some message) s lo hi left past has lost = by ((mail.store == s) && do_overlap lo hi mail.lo mail.hi) refl left
  where
    by : (t : Bool) → ((mail.store == s) && do_overlap lo hi mail.lo mail.hi) ≡ t → (if t then None else Some mail) ≡ None → IsPast copies message
    by true e none =
        let of : mail.store ≡ s = grind (arith, e) in
        inr (ap (λ (q : ℕ). live_home (copies q)) has.target ∙ lost of)
    by false e none = cc

-- the directory has forgotten messages that the machine has, and that have lost their copy
pub like-mail-fewer : (messages : ℕ → Option Message) (copies : ℕ → CopyState) (d n : DirectoryView) (s lo hi : ℕ) → HasMessages messages copies d
    → Spoils d.messages n.messages s lo hi → n.spaces.memories.next ≡ d.spaces.memories.next
    → ((number : ℕ) → IfSome (mail_at d number) (λ mail. mail.store ≡ s → live_home (copies mail.target) ≡ None)) → HasMessages messages copies n
like-mail-fewer messages copies d n s lo hi has spoilt next lost = record {
  mails = λ number. subst (λ (o : Option Mail). IfSome o (λ mail. IsSomeAnd (messages number) (IsMessageOf mail))) (sym (spoilt.left number))
      (left-on _ _ (mail_at d number) s lo hi (has.mails number) (λ mail apart is. is));
  past = λ number none. past_left copies (mail_at d number) (messages number) s lo hi (sym (spoilt.left number) ∙ none)
      (λ absent. has.past number absent) (has.mails number) (lost number);
  fresh = λ number above. has.fresh number (omega (arith, above, spoilt.next));
  given = λ number. subst (λ (k : ℕ). IfSome (messages number) (λ message. message.target < k)) (sym next) (has.given number);
}

abbrev IsFlying : Fate → Type 0
IsFlying flying = Unit {0}
IsFlying machine.spoilt = ⊥
IsFlying delivered = ⊥

spoilt_landed : (fate : Fate) → spoilt_fate fate ≢ flying
spoilt_landed flying e = subst IsFlying (sym e) tt
spoilt_landed machine.spoilt e = subst IsFlying (sym e) tt
spoilt_landed delivered e = subst IsFlying (sym e) tt

pub delivered_landed : delivered ≢ flying
delivered_landed e = subst IsFlying (sym e) tt

-- what is true of a message after indices changed, by whether it takes one of them
changed : (P : Message → Type 0) (s lo hi : ℕ) (message : Message)
    → (((message.store == s) && do_overlap lo hi message.lo message.hi) ≡ true → P (record message { fate = spoilt_fate message.fate }))
    → (((message.store == s) && do_overlap lo hi message.lo message.hi) ≡ false → P message) → P (after_change s lo hi message)
changed P s lo hi message over apart = by ((message.store == s) && do_overlap lo hi message.lo message.hi) refl
  where
    by : (t : Bool) → ((message.store == s) && do_overlap lo hi message.lo message.hi) ≡ t
        → P (if t then record message { fate = spoilt_fate message.fate } else message)
    by true e = over e
    by false e = apart e

not_both : (t : Bool) → t ≡ true → t ≡ false → ⊥
not_both true one other = cc
not_both false one other = cc

-- a message of the machine takes the same indices
over_same : (mail : Mail) (message : Message) (s lo hi : ℕ) (t : Bool) → IsMessageOf mail message
    → ((mail.store == s) && do_overlap lo hi mail.lo mail.hi) ≡ t → ((message.store == s) && do_overlap lo hi message.lo message.hi) ≡ t
over_same mail message s lo hi t is over = rw (is.store, is.lo, is.hi) over

-- the machine has spoilt the messages that the directory has forgotten
pub like-mail-spoilt : (messages : ℕ → Option Message) (copies : ℕ → CopyState) (d n : DirectoryView) (s lo hi : ℕ) → HasMessages messages copies d
    → Spoils d.messages n.messages s lo hi → n.spaces.memories.next ≡ d.spaces.memories.next → HasMessages (spoils s lo hi messages) copies n
like-mail-spoilt messages copies d n s lo hi has spoilt next = record {
  mails = λ number. subst (λ (o : Option Mail). IfSome o (λ mail. IsSomeAnd (spoils s lo hi messages number) (IsMessageOf mail))) (sym (spoilt.left number))
      (left-on _ _ (mail_at d number) s lo hi (has.mails number) (λ mail apart is. on mail (messages number) apart is));
  past = λ number none. past_on (mail_at d number) (messages number) (sym (spoilt.left number) ∙ none) (λ absent. has.past number absent) (has.mails number);
  fresh = λ number above. ap (option_map (after_change s lo hi)) (has.fresh number (omega (arith, above, spoilt.next)));
  given = λ number. given_on (messages number) (has.given number);
}
  where
    on : (mail : Mail) (o : Option Message) → ((mail.store == s) && do_overlap lo hi mail.lo mail.hi) ≡ false
        → IsSomeAnd o (IsMessageOf mail) → IsSomeAnd (option_map (after_change s lo hi) o) (IsMessageOf mail)
    on mail None apart is = absurd is
    on mail (Some message) apart is = changed (IsMessageOf mail) s lo hi message
        (λ over. absurd (not_both _ over (over_same mail message s lo hi false is apart)))
        (λ apart. is)

    past_on : (o : Option Mail) (p : Option Message) → left_of s lo hi o ≡ None → (o ≡ None → IfSome p (IsPast copies))
        → IfSome o (λ mail. IsSomeAnd p (IsMessageOf mail)) → IfSome (option_map (after_change s lo hi) p) (IsPast copies)
    past_on o None left past has = tt
    past_on None (Some message) left past has = changed (IsPast copies) s lo hi message (λ over. inl (spoilt_landed message.fate)) (λ apart. past refl)
    past_on (Some mail) (Some message) left past has = changed (IsPast copies) s lo hi message
        (λ over. inl (spoilt_landed message.fate))
        (λ apart. absurd (not_both _ (over_if ((mail.store == s) && do_overlap lo hi mail.lo mail.hi) left) (sym (over_same mail message s lo hi _ has refl) ∙ apart)))
      where
        over_if : (t : Bool) → (if t then None else Some mail) ≡ None → t ≡ true
        over_if true none = refl
        over_if false none = cc

    given_on : (o : Option Message) → IfSome o (λ message. message.target < d.spaces.memories.next)
        → IfSome (option_map (after_change s lo hi) o) (λ message. message.target < n.spaces.memories.next)
    given_on None below = tt
    given_on (Some message) below = changed (λ message. message.target < n.spaces.memories.next) s lo hi message
        (λ over. omega (arith, below, next)) (λ apart. omega (arith, below, next))

there_before : (o p : Option Held) → home_in p ≡ home_in o → IsSome p → IsSome o
there_before (Some o) p home there = refl
there_before None (Some p) home there = cc
there_before None None home there = there

pub stays_so : (d n : DirectoryView) (q : ℕ) → home_in (copy_at n q) ≡ home_in (copy_at d q) → expected_in (copy_at n q) ≡ expected_in (copy_at d q)
    → IsSome (copy_at n q) → StaysOrNew d n q
stays_so d n q home expected there = inl (there_before (copy_at d q) (copy_at n q) home there, home, expected)

-- each copy lies as before, with room for as many messages, and the messages are as before
pub mailed-so : (d n : DirectoryView) → AreMailed d → n.messages ≡ d.messages → n.aside ≡ d.aside
    → n.spaces.memories.next ≡ d.spaces.memories.next → n.next ≡ d.next
    → ((q : ℕ) → home_in (copy_at n q) ≡ home_in (copy_at d q)) → ((q : ℕ) → expected_in (copy_at n q) ≡ expected_in (copy_at d q))
    → ((q i : ℕ) → state_in (copy_at n q) i ≡ Owner → HasOwner n d q i) → AreMailed n
mailed-so d n mailed messages aside next next_store homes expected owners =
    mailed-kept d n mailed messages aside (omega (arith, next)) (omega (arith, next_store)) (λ q there. stays_so d n q (homes q) (expected q) there) owners

-- each copy lies as before, with room for as many messages, and messages over some indices are spoilt
pub mailed-spoilt-so : (d n : DirectoryView) (s lo hi : ℕ) → AreMailed d → Spoils d.messages n.messages s lo hi → n.aside ≡ d.aside
    → n.spaces.memories.next ≡ d.spaces.memories.next → n.next ≡ d.next
    → ((q : ℕ) → home_in (copy_at n q) ≡ home_in (copy_at d q)) → ((q : ℕ) → expected_in (copy_at n q) ≡ expected_in (copy_at d q))
    → ((q i : ℕ) → state_in (copy_at n q) i ≡ Owner → ((store_in (copy_at n q) ≡ Some s) × (lo ≤ i) × (i < hi)) ⊎ HasOwner n d q i) → AreMailed n
mailed-spoilt-so d n s lo hi mailed spoilt aside next next_store homes expected owners =
    mailed-spoilt d n s lo hi mailed spoilt aside (omega (arith, next)) (omega (arith, next_store)) (λ q there. stays_so d n q (homes q) (expected q) there) owners

-- the same messages are spoilt where nothing changes them before and after
pub spoilt-between : (a b c d : MessagesView) (s lo hi : ℕ) → b ≡ a → Spoils b c s lo hi → d ≡ c → Spoils a d s lo hi
spoilt-between a b c d s lo hi before spoilt after =
    subst (λ (x : MessagesView). Spoils x d s lo hi) before (subst (λ (x : MessagesView). Spoils b x s lo hi) (sym after) spoilt)

left-twice : (s lo hi : ℕ) (o : Option Mail) → left_of s lo hi (left_of s lo hi o) ≡ left_of s lo hi o
left-twice s lo hi None = refl
left-twice s lo hi (Some mail) = by ((mail.store == s) && do_overlap lo hi mail.lo mail.hi) refl
  where
    by : (t : Bool) → ((mail.store == s) && do_overlap lo hi mail.lo mail.hi) ≡ t
        → left_of s lo hi (if t then None else Some mail) ≡ (if t then None else Some mail)
    by true e = refl
    by false e = ap (λ (t : Bool). if t then None else Some mail) e

-- what is spoilt twice is spoilt once
pub spoilt-twice : (old mid new : MessagesView) (s lo hi : ℕ) → Spoils old mid s lo hi → Spoils mid new s lo hi → Spoils old new s lo hi
spoilt-twice old mid new s lo hi x y = record {
  left = λ number. y.left number ∙ ap (left_of s lo hi) (x.left number) ∙ left-twice s lo hi (mail_of old number);
  next = y.next ∙ x.next;
  flying = omega (arith, x.flying, y.flying);
  flying_each = λ copy. omega (arith, x.flying_each copy, y.flying_each copy);
  room = y.room ∙ x.room;
  cells = y.cells ∙ x.cells;
}
