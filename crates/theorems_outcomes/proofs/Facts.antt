-- What follows from facts that stand side by side, as the clauses of two contracts do.
use mathlib.Core.Path.{◌≡◌, sym, ◌∙◌}
use seplogic.Ra.Ura.{Ura}
use base.Logic.{SProp, ent, sep, via, id⊢, fst∗, snd∗}
use contract.Fact.{fact, fact_i, fact_use}

-- Two that are equal to a third are equal.
pub alike : {A : Type 0} {x y z : A} → x ≡ z → y ≡ z → x ≡ y
alike p q = p ∙ sym q

module _ {M : Type 1} (𝓤 : Ura M) where
  -- The assertion of a fact, two assertions side by side, and one that follows from another.
  abbrev holds : Type 0 → SProp 𝓤
  holds φ = fact 𝓤 φ

  abbrev ◌∗◌ : SProp 𝓤 → SProp 𝓤 → SProp 𝓤
  P ∗ Q = sep 𝓤 P Q

  abbrev ◌⊢◌ : SProp 𝓤 → SProp 𝓤 → Type 1
  P ⊢ Q = ent 𝓤 P Q

  infix 26 ◌⊢◌
  infixr 35 ◌∗◌
  -- Where each side tells a fact, what follows from both facts follows from both sides.
  follows : {P Q : SProp 𝓤} {φ ψ χ : Type 0} → P ⊢ holds φ → Q ⊢ holds ψ → (φ → ψ → χ) → P ∗ Q ⊢ holds χ
  follows {P} {Q} {φ} {ψ} {χ} first second both =
      fact_use 𝓤 φ (via 𝓤 P (fst∗ 𝓤 P Q) first) (λ x. fact_use 𝓤 ψ (via 𝓤 Q (snd∗ 𝓤 P Q) second) (λ y. fact_i 𝓤 χ (P ∗ Q) (both x y)))

  -- What follows from an outcome of a contract that has one clause, and of one that has three.
  pub from_one : {φ χ : Type 0} → (φ → χ) → holds φ ⊢ holds χ
  from_one {φ} {χ} f = fact_use 𝓤 φ (id⊢ 𝓤 (holds φ)) (λ x. fact_i 𝓤 χ (holds φ) (f x))

  pub from_two : {φ φ' χ : Type 0} → (φ → φ' → χ) → holds φ ∗ holds φ' ⊢ holds χ
  from_two {φ} {φ'} = follows (id⊢ 𝓤 (holds φ)) (id⊢ 𝓤 (holds φ'))

  pub from_three : {φ φ' φ'' χ : Type 0} → (φ → φ' → φ'' → χ) → holds φ ∗ holds φ' ∗ holds φ'' ⊢ holds χ
  from_three {φ} {φ'} {φ''} f =
      follows {ψ = φ' × φ''} (id⊢ 𝓤 (holds φ)) (follows (id⊢ 𝓤 (holds φ')) (id⊢ 𝓤 (holds φ'')) (λ y z. (y, z))) (λ x others. f x others.0 others.1)

  -- What follows from two outcomes of a contract that has one clause.
  pub one : {φ ψ χ : Type 0} → (φ → ψ → χ) → holds φ ∗ holds ψ ⊢ holds χ
  one {φ} {ψ} = follows (id⊢ 𝓤 (holds φ)) (id⊢ 𝓤 (holds ψ))

  -- And of one that has two clauses.
  pub two : {φ φ' ψ ψ' χ : Type 0} → (φ × φ' → ψ × ψ' → χ) → (holds φ ∗ holds φ') ∗ (holds ψ ∗ holds ψ') ⊢ holds χ
  two = follows (one (λ x y. (x, y))) (one (λ x y. (x, y)))

  -- And of one that has three clauses.
  pub three : {φ φ' φ'' ψ ψ' ψ'' χ : Type 0} → (φ × (φ' × φ'') → ψ × (ψ' × ψ'') → χ) →
      (holds φ ∗ holds φ' ∗ holds φ'') ∗ (holds ψ ∗ holds ψ' ∗ holds ψ'') ⊢ holds χ
  three {φ} {φ'} {φ''} {ψ} {ψ'} {ψ''} = follows (all φ φ' φ'') (all ψ ψ' ψ'')
    where
      all : (α β γ : Type 0) → holds α ∗ holds β ∗ holds γ ⊢ holds (α × (β × γ))
      all α β γ = from_three (λ x y z. (x, (y, z)))
