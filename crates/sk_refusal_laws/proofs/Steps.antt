-- The steps of the parser do the same with both lists.
use Rattle.std.proofs.Common.{◌≡◌, ℕ, zero, suc, ◌+◌, ◌<◌, ◌≤◌, Bool, true, false, cond, nat_lt, List, [], ◌∷◌, ◌++◌, length, drop, option_and_then, refl, ap, sym, subst, arith}
use Rattle.sk_grammar.specs.Signs.{meant_by}
use Rattle.sk_refusals.specs.declared.refusal.Limited.TheVariants.{Nodes, Instances}
use Rattle.sk_refusals.specs.declared.refusal.Refusal.TheVariants.{Syntax, Deep, Many}
use Rattle.sk_tokens.specs.declared.token.Sign.{Sign}
use Rattle.sk_tokens.specs.declared.token.Sign.TheVariants as sign
use Rattle.sk_tokens.specs.declared.token.Token.{Token}
use Rattle.sk_reading.specs.declared.keyword.Keyword.{Keyword}
use Rattle.sk_reading.specs.Reading.{Place, Outcome, Read, Refused, Parser, and_then, ◌>>◌, pure, refuse, take, front, front_of, advance, is_sign, is_keyword, sees, sees_keyword, after, eat, expect, expect_keyword, word_of, front_word, name_of, name, word_in, number_of, number, text_of, text, type_of, ty, fresh, count_node, count_instance, opened, opened_by}
use Rattle.sk_reading.specs.ReadingExpressions.{begins_expression, opened_by_expression}
use Rattle.sk_reading_sound_laws.proofs.Steps.{read-is}
use Rattle.sk_refusal_laws.proofs.Local.{Under, under-more, under-then, Shrinks, Parting, Alike, Related, related-and_then, Local, Turning, local-then, front-same, local-pure, local-refuse, advanced, local-advance, local-take, local-if, local-front, local-taken, local-same, left-here, left-there, Both}

fewer : (l : List Token) → 0 < length l → length (drop 1 l) < length l
fewer [] some = absurd (omega arith)
fewer (token ∷ l) some = omega arith

-- what is behind the next token is fewer
pub taken-fewer : {A : Type 0} {value other : A} (n : ℕ) (q s : Place) → 0 < length q.rest → length q.rest ≤ suc n → Read (value, advance q) ≡ Read (other, s) → length s.rest ≤ n
unfolding advance
taken-fewer n q s some enough is =
    let same = ap (λ (z : Place). length z.rest) (ap (λ y. y.1) (read-is is)) in omega (arith, same, fewer q.rest some)

-- what is read leaves no more
pub read-fewer : {A : Type 0} (o : Outcome A) (n : ℕ) (p : Place) (x : A × Place) → Under (suc (length p.rest)) o → length p.rest ≤ n → o ≡ Read x → length x.1.rest ≤ n
read-fewer (Read y) n p x under enough is = let same = ap (λ z. length z.1.rest) (read-is is) in omega (arith, same)
read-fewer (Refused refusal left) n p x under enough is = absurd (cc)

eaten : (b : Bool) (p : Place) → cond b (Read (true, advance p)) (Read (false, p)) ≡ Read (b, cond b (advance p) p)
eaten true p = refl
eaten false p = refl

module _ {w : Parting} where
  pub local-expect : (s : Sign) → Local w (expect s)
  unfolding expect sees
  local-expect s = local-front (is_sign s) (λ p. Read (tt, advance p)) (refuse Syntax) (local-advance tt) (local-refuse Syntax)

  pub local-expect_keyword : (k : Keyword) → Local w (expect_keyword k)
  unfolding expect_keyword sees_keyword
  local-expect_keyword k = local-front (is_keyword k) (λ p. Read (tt, advance p)) (refuse Syntax) (local-advance tt) (local-refuse Syntax)

  pub local-eat : (s : Sign) → Local w (eat s)
  unfolding after sees
  local-eat s =
      local-same (λ p. cond (is_sign s (front p)) (Read (true, advance p)) (Read (false, p))) (eat s) (λ p. eaten (is_sign s (front p)) p)
      (local-front (is_sign s) (λ p. Read (true, advance p)) (pure false) (local-advance true) (local-pure false))

  pub local-name : Local w name
  unfolding name front_word
  local-name = local-taken (λ l. option_and_then name_of (word_of l)) (λ token one other. refl)

  pub local-word_in : {A : Type 0} (entries : List (List ℕ × A)) → Local w (word_in entries)
  unfolding word_in front_word
  local-word_in entries = local-taken (λ l. option_and_then (meant_by entries) (word_of l)) (λ token one other. refl)

  pub local-number : Local w number
  unfolding number
  local-number = local-taken number_of (λ token one other. refl)

  pub local-text : Local w text
  unfolding text
  local-text = local-taken text_of (λ token one other. refl)

  pub local-ty : Local w ty
  unfolding ty front
  local-ty = local-taken (λ l. type_of (front_of l)) (λ token one other. refl)

  pub local-sees : (s : Sign) → Local w (λ p. Read (sees s p, p))
  unfolding sees
  local-sees s = record {
    shrinks = λ p. omega arith;
    goes = λ p p' alike. Both (is_sign s (front p)) p p' refl (ap (λ nx. Read (is_sign s nx, p')) (sym (front-same p p' alike))) alike;
  }

  -- ---- counts

  pub local-fresh : Local w fresh
  local-fresh = record {
    shrinks = λ p. omega arith;
    goes = λ p p' alike. Both (tt {0}) (record p { nodes = 0 }) (record p' { nodes = 0 }) refl refl
        (record { before = alike.before; one = alike.one; other = alike.other; nodes = refl; instances = alike.instances });
  }

  local-more_nodes : Local w (λ p. Read (tt {0}, record p { nodes = p.nodes + 1 }))
  local-more_nodes = record {
    shrinks = λ p. omega arith;
    goes = λ p p' alike. Both (tt {0}) (record p { nodes = p.nodes + 1 }) (record p' { nodes = p'.nodes + 1 }) refl refl
        (record { before = alike.before; one = alike.one; other = alike.other; nodes = ap (λ n. n + 1) alike.nodes; instances = alike.instances });
  }

  pub local-count_node : Local w count_node
  unfolding count_node
  local-count_node =
      local-if (λ p. nat_lt p.nodes 1024) (λ p. Read (tt, record p { nodes = p.nodes + 1 })) (refuse (Many Nodes))
      (λ p p' alike. ap (λ n. nat_lt n 1024) alike.nodes) local-more_nodes (local-refuse (Many Nodes))

  local-more_instances : Local w (λ p. Read (tt {0}, record p { instances = p.instances + 1 }))
  local-more_instances = record {
    shrinks = λ p. omega arith;
    goes = λ p p' alike. Both (tt {0}) (record p { instances = p.instances + 1 }) (record p' { instances = p'.instances + 1 }) refl refl
        (record { before = alike.before; one = alike.one; other = alike.other; nodes = alike.nodes; instances = ap (λ n. n + 1) alike.instances });
  }

  pub local-count_instance : Local w count_instance
  unfolding count_instance
  local-count_instance =
      local-if (λ p. nat_lt p.instances 1024) (λ p. Read (tt, record p { instances = p.instances + 1 })) (refuse (Many Instances))
      (λ p p' alike. ap (λ n. nat_lt n 1024) alike.instances) local-more_instances (local-refuse (Many Instances))

  -- ---- what is opened

  pub local-opened : (left : ℕ) → Local w (opened left)
  unfolding opened
  local-opened zero = local-refuse Deep
  local-opened (suc left) = local-pure tt

  pub local-opened_by : (s : Sign) (left : ℕ) → Local w (opened_by s left)
  unfolding opened_by sees
  local-opened_by s left =
      local-front (is_sign s) (opened left >> take) (refuse Syntax)
      (local-then (opened left) (λ _. take) (local-opened left) (λ _. local-take)) (local-refuse Syntax)

  pub local-opened_by_expression : (left : ℕ) → Local w (opened_by_expression left)
  unfolding opened_by_expression
  local-opened_by_expression left = local-front begins_expression (opened left) (refuse Syntax) (local-opened left) (local-refuse Syntax)

-- ---- items with commas between

module _ {W A : Type 0} (item : List A → Parser W) (made : W → A) (from : (turns : ℕ) → List A → Parser (List A)) where
  abbrev further : (turns : ℕ) → List A → W → Parser (List A)
  further turns found x = λ q. cond (sees sign.Comma q) (from turns (found ++ made x ∷ [])) (λ r. Read (found ++ made x ∷ [], r)) (after sign.Comma q)

  abbrev pub IsLoop : Type 0
  IsLoop =
      ((found : List A) (p : Place) → from zero found p ≡ refuse Syntax p)
      × ((turns : ℕ) (found : List A) (p : Place) → from (suc turns) found p ≡ and_then (item found p) (further turns found))

  further-shrinks : (turns : ℕ) (found : List A) → ((found : List A) → Shrinks (from turns found)) → (x : W) → Shrinks (further turns found x)
  unfolding after
  further-shrinks turns found shrinks x q = go (sees sign.Comma q)
    where
      go : (b : Bool) → Under (suc (length q.rest)) (cond {A = Parser (List A)} b (from turns (found ++ made x ∷ [])) (λ r. Read (found ++ made x ∷ [], r)) (cond b (advance q) q))
      go true = under-more (suc (length (advance q).rest)) (suc (length q.rest)) (from turns (found ++ made x ∷ []) (advance q)) (omega (arith, advanced q)) (shrinks (found ++ made x ∷ []) (advance q))
      go false = omega arith

  loop-shrinks : IsLoop → ((found : List A) → Shrinks (item found)) → (turns : ℕ) (found : List A) → Shrinks (from turns found)
  loop-shrinks loop shrinks zero found p = subst (Under (suc (length p.rest))) (sym (loop.0 found p)) (omega arith)
  loop-shrinks loop shrinks (suc turns) found p =
      subst (Under (suc (length p.rest))) (sym (loop.1 turns found p))
      (under-then (suc (length p.rest)) (item found p) (further turns found) (shrinks found p) (further-shrinks turns found (λ f. loop-shrinks loop shrinks turns f)))

  module _ (w : Parting) where
    further-goes : (n n' : ℕ) (found : List A) (x : W) → ((f : List A) → Shrinks (from n f)) → ((f : List A) → Shrinks (from n' f))
        → ((f : List A) (p p' : Place) → length p.rest ≤ n → length p'.rest ≤ n' → Alike w p p' → Related w (from n f p) (from n' f p'))
        → (q q' : Place) → length q.rest ≤ suc n → length q'.rest ≤ suc n' → Alike w q q' → Related w (further n found x q) (further n' found x q')
    unfolding after sees
    further-goes n n' found x shrinks shrinks' later q q' enough enough' alike =
        subst (λ b'. Related w (further n found x q) (cond {A = Parser (List A)} b' (from n' (found ++ made x ∷ [])) (λ z. Read (found ++ made x ∷ [], z)) (cond b' (advance q') q')))
        (ap (is_sign sign.Comma) (front-same q q' alike)) (go (is_sign sign.Comma (front q)))
      where
        go : (b : Bool) → Related w (cond {A = Parser (List A)} b (from n (found ++ made x ∷ [])) (λ z. Read (found ++ made x ∷ [], z)) (cond b (advance q) q))
            (cond {A = Parser (List A)} b (from n' (found ++ made x ∷ [])) (λ z. Read (found ++ made x ∷ [], z)) (cond b (advance q') q'))
        go true =
            related-and_then (Read (tt {0}, advance q)) (Read (tt, advance q')) (λ _. from n (found ++ made x ∷ [])) (λ _. from n' (found ++ made x ∷ []))
            (local-take.goes q q' alike) (λ _. shrinks (found ++ made x ∷ [])) (λ _. shrinks' (found ++ made x ∷ []))
            (λ _ s s' is is' next. later (found ++ made x ∷ []) s s' (taken-fewer n q s (left-here q q' alike) enough is)
            (taken-fewer n' q' s' (left-there q q' alike) enough' is') next)
        go false = Both (found ++ made x ∷ []) q q' refl refl alike

    loop-goes : IsLoop → ((found : List A) → Local w (item found)) → (n n' : ℕ) (found : List A) (p p' : Place) → length p.rest ≤ n → length p'.rest ≤ n' → Alike w p p'
        → Related w (from n found p) (from n' found p')
    loop-goes loop local zero n' found p p' enough enough' alike = absurd (omega (arith, left-here p p' alike))
    loop-goes loop local (suc n) zero found p p' enough enough' alike = absurd (omega (arith, left-there p p' alike))
    loop-goes loop local (suc n) (suc n') found p p' enough enough' alike =
        subst (λ o. Related w o (from (suc n') found p')) (sym (loop.1 n found p))
        (subst (λ o'. Related w (and_then (item found p) (further n found)) o') (sym (loop.1 n' found p'))
        (related-and_then (item found p) (item found p') (further n found) (further n' found) ((local found).goes p p' alike)
        (λ x. further-shrinks n found (λ f. loop-shrinks loop (λ f. (local f).shrinks) n f) x) (λ x. further-shrinks n' found (λ f. loop-shrinks loop (λ f. (local f).shrinks) n' f) x)
        (λ x q q' is is' next. further-goes n n' found x (λ f. loop-shrinks loop (λ f. (local f).shrinks) n f) (λ f. loop-shrinks loop (λ f. (local f).shrinks) n' f) (λ f s s' e e' a. loop-goes loop local n n' f s s' e e' a)
        q q' (read-fewer (item found p) (suc n) p (x, q) ((local found).shrinks p) enough is) (read-fewer (item found p') (suc n') p' (x, q') ((local found).shrinks p') enough' is') next)))

  pub local-commas : {w : Parting} → IsLoop → ((found : List A) → Local w (item found)) → (found : List A) → Turning w (λ n. from n found)
  local-commas {w} loop local found = record {
    shrinks = λ n. loop-shrinks loop (λ f. (local f).shrinks) n found;
    goes = λ n n' p p' enough enough' alike. loop-goes w loop local n n' found p p' enough enough' alike;
  }
