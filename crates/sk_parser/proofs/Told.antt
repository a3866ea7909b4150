-- What a fault that is told of a list of tokens means: they are no program within the limits, and it is their fault.
use Rattle.std.proofs.Common.{◌≡◌, ◌≢◌, ℕ, List, refl}
use Rattle.sk_grammar.specs.Limits.{ReadsWithin}
use Rattle.sk_refusals.specs.declared.refusal.Refusal.{Refusal}
use Rattle.sk_refusals.specs.declared.refusal.Refusal.TheVariants as refusal
use Rattle.sk_tokens.specs.declared.token.Token.{Token}
use Rattle.sk_tree.specs.declared.tree.Program.{Program}
use Rattle.sk_reading.specs.ReadingPrograms.{RefusesAt}
use Rattle.sk_reading_complete_laws.proofs.Programs.{not_refused}
use Rattle.sk_refusal_laws.proofs.Fault.{is-refusal}
use Rattle.sk_refusals.specs.Refusals.{IsRefusal}
use Rattle.sk_reader.specs.Tells.{Tells}
use Rattle.sk_reader.specs.declared.fault.ParseFault.{ParseFault}
use Rattle.sk_reader.specs.declared.fault.ParseFault.TheVariants.{Syntax, Deep, Many, Memory}

no_program : (tokens : List Token) (refusal : Refusal) (token : ℕ) → RefusesAt tokens refusal token → (program : Program) → ReadsWithin tokens program → ⊥
no_program tokens refusal token refuses program is = not_refused tokens refusal refuses.left refuses.refuses program is

pub told-no_program : (tokens : List Token) (fault : ParseFault) → Tells (RefusesAt tokens) fault → fault ≢ Memory → (program : Program) → ReadsWithin tokens program → ⊥
told-no_program tokens (Syntax token) told other program is = no_program tokens refusal.Syntax token told program is
told-no_program tokens (Deep token) told other program is = no_program tokens refusal.Deep token told program is
told-no_program tokens (Many what token) told other program is = no_program tokens (refusal.Many what) token told program is
told-no_program tokens Memory told other program is = other refl

pub told-refusal : (tokens : List Token) (fault : ParseFault) → Tells (RefusesAt tokens) fault → Tells (IsRefusal tokens) fault
told-refusal tokens (Syntax token) told = is-refusal tokens refusal.Syntax token told
told-refusal tokens (Deep token) told = is-refusal tokens refusal.Deep token told
told-refusal tokens (Many what token) told = is-refusal tokens (refusal.Many what) token told
told-refusal tokens Memory told = tt
