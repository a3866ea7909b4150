-- Messages in flight to copies that are there.
use Rattle.std.specs.Prelude.{◌≡◌, ℕ, ◌<◌, IsSomeAnd}
use Rattle.sk_copy_states.specs.Copies.{pins_in}
use Rattle.sk_coherence_laws.specs.Directory.{DirectoryView, copy_at, mail_at}

-- the message is in flight to a copy, which is pinned
pub record IsFlying (d : DirectoryView) (number copy : ℕ) : Type 0 where
  pub flying : IsSomeAnd (mail_at d number) (λ mail. mail.target ≡ copy)
  pub pinned : 0 < pins_in (copy_at d copy)
