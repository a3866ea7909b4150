-- Bytes that are taken piece by piece.
use Rattle.std.proofs.Common.{◌≡◌, ◌≤◌, ◌+◌, ◌-◌, ℕ, List, ◌++◌, length, take, drop, Some, None, sym, ap, subst, ◌∙◌, arith, append_assoc}
use Rattle.std.proofs.lemmas.Grind.{common_steps}
use Rattle.std.proofs.Math.Seq.{take-append-add}
use Rattle.std.specs.declared.option.Option.{Option}
use Rattle.std.specs.Io.KnownBytes.{Appends}
use Rattle.sk_outside.specs.Holding.{AppendsPrefix}

-- two pieces that are appended one after the other
pub Appends-append : (before middle now : Option (List ℕ)) (first second : List ℕ) → Appends before middle first → Appends middle now second → Appends before now (first ++ second)
Appends-append None middle now first second a b = tt
Appends-append (Some xs) None now first second a b = absurd a
Appends-append (Some xs) (Some ys) None first second a b = absurd b
Appends-append (Some xs) (Some ys) (Some zs) first second a b = b ∙ rw a (append_assoc xs first second)

-- a prefix of the first piece is one of both
pub AppendsPrefix-first : (before now : Option (List ℕ)) (first second : List ℕ) → AppendsPrefix before now first → AppendsPrefix before now (first ++ second)
AppendsPrefix-first before now first second (k, within, appends) =
    let same : take k (first ++ second) ≡ take k first = grind (arith, common_steps) in
    (k, grind (arith, common_steps), subst (λ (piece : List ℕ). Appends before now piece) (sym same) appends)

-- the first piece, and then a prefix of the second, is a prefix of both
pub AppendsPrefix-second : (before middle now : Option (List ℕ)) (first second : List ℕ) → Appends before middle first → AppendsPrefix middle now second → AppendsPrefix before now (first ++ second)
AppendsPrefix-second before middle now first second appended (k, within, appends) =
    let same : take (length first + k) (first ++ second) ≡ first ++ take k second = take-append-add first second k in
    (length first + k, grind (arith, common_steps), subst (λ (piece : List ℕ). Appends before now piece) (sym same) (Appends-append before middle now first (take k second) appended appends))

-- the lemmas on pieces that are put one after the other
pub ruleset puts = (Appends-append, AppendsPrefix-first, AppendsPrefix-second)

-- so much of the whole is written, and the rest is left
pub record Written (whole rest : List ℕ) (before now : Option (List ℕ)) : Type 0 where
  pub done : List ℕ
  pub parts : done ++ rest ≡ whole
  pub appended : Appends before now done

-- after one more piece, of n bytes
pub Written-more : (whole rest : List ℕ) (before middle now : Option (List ℕ)) (n : ℕ) → n ≤ length rest → Written whole rest before middle → Appends middle now (take n rest) → Written whole (take (length rest - n) (drop n rest)) before now
Written-more whole rest before middle now n within written appends = record {
  done = written.done ++ take n rest;
  parts =
      let left : take (length rest - n) (drop n rest) ≡ drop n rest = grind (arith, common_steps) in
      let both : take n rest ++ drop n rest ≡ rest = grind (arith, common_steps) in
      rw left (append_assoc written.done (take n rest) (drop n rest) ∙ ap (λ (end : List ℕ). written.done ++ end) both ∙ written.parts);
  appended = Appends-append before middle now written.done (take n rest) written.appended appends;
}
