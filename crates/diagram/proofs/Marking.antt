-- The climb from a part to the top marks what the part is beneath, and nothing else.
use Rattle.std.proofs.Common.{◌≡◌, ◌⊎◌, ℕ, ◌-◌, ◌<◌, Option, Some, None, length, sym, ◌∙◌, ap, refl, subst, inl, inr, arith}
use Rattle.std.proofs.lemmas.Bool.{cases_eq}
use Rattle.std.proofs.lemmas.List.{get_or-set_same, get_or-set_other, length-set}
use Rattle.diagram.specs.declared.limits.TheConstants.{NODES}
use Rattle.diagram.specs.declared.node.Node.{Node}
use Rattle.diagram.specs.declared.node.Status.TheVariants.{Stale}
use Rattle.diagram.specs.declared.table.Table.{Table}
use Rattle.diagram.specs.Records.{Sound, node_at, status_at}
use Rattle.diagram.specs.Writing.{NodesOnly, MarkedAbove, with_stale}
use Rattle.diagram.proofs.Climbing.{Above, user, higher, beneath_from_above, above_from_beneath}
use Rattle.diagram.proofs.Facts.{user_of}

-- j is the next node, if there is one, or above it
abbrev pub From : Table → Option ℕ → ℕ → Type 0
From t None j = ⊥
From t (Some u) j = (u ≡ j) ⊎ Above t u j

abbrev stale : Node → Node
stale n = record n { status = Stale }

-- what is marked so far is above k, and what is above k is marked or still to come
pub record Climbed (t now : Table) (k : ℕ) (next : Option ℕ) : Type 0 where
  pub rest : NodesOnly t now
  pub others : (j : ℕ) → stale (node_at now j) ≡ stale (node_at t j)
  pub marked : (j : ℕ) → status_at now j ≡ Stale → (status_at t j ≡ Stale) ⊎ Above t k j
  pub kept : (j : ℕ) → status_at t j ≡ Stale → status_at now j ≡ Stale
  pub to_come : (j : ℕ) → Above t k j → (status_at now j ≡ Stale) ⊎ From t next j
  pub above : (j : ℕ) → From t next j → Above t k j

pub with_next : {t now : Table} {k : ℕ} {next other : Option ℕ} → Climbed t now k next → next ≡ other → Climbed t now k other
with_next {t} {now} {k} c e = subst (Climbed t now k) e c

-- how far the next node is from the top
abbrev pub to_top : Option ℕ → ℕ
to_top None = 0
to_top (Some u) = NODES - u

-- what is above a node is its user or above that
by_user : {t : Table} {k j : ℕ} → Above t k j → From t (node_at t k).user j
by_user {t} {k} {j} (user e) = subst (λ o. From t o j) (sym e) (inl refl)
by_user {t} {k} {j} (higher e a) = subst (λ o. From t o j) (sym e) (inr a)

from_user : {t : Table} {k j : ℕ} (o : Option ℕ) → (node_at t k).user ≡ o → From t o j → Above t k j
from_user None e f = absurd f
from_user {t} {k} {j} (Some u) e (inl q) = subst (λ z. Above t k z) q (user e)
from_user (Some u) e (inr a) = higher e a

above_in : {t : Table} (s : Sound t) {k j : ℕ} → k < t.count → Above t k j → (k < j) × (j < t.count)
above_in s {k} h (user {u = u} e) = (s.at k h).user_above u e
above_in s {k} h (higher {u = u} e a) =
    let one = (s.at k h).user_above u e in
    let two = above_in s one.1 a in
    (omega (arith, one.0, two.0), two.1)

module _ {t : Table} (s : Sound t) (k : ℕ) (low : k < t.count) where
  pub start : Climbed t t k (node_at t k).user
  start = record {
    rest = record { nodes = refl; children = refl; arities = refl; count = refl };
    others = λ j. refl;
    marked = λ j h. inl h;
    kept = λ j h. h;
    to_come = λ j a. inr (by_user a);
    above = λ j f. from_user (node_at t k).user refl f;
  }

  pub next_in : {now : Table} {u : ℕ} → Climbed t now k (Some u) → (k < u) × (u < t.count)
  next_in {now} {u} c = above_in s low (c.above u (inl refl))

  -- the next node is marked
  pub step : {now after : Table} {u : ℕ} → length now.nodes ≡ NODES → Climbed t now k (Some u) → after ≡ with_stale now u → Climbed t after k (node_at now u).user
  step {now} {after} {u} wide c e = subst (λ z. Climbed t z k (node_at now u).user) (sym e) here
    where
      high : u < length now.nodes
      high = omega (arith, wide, (next_in c).1, s.few)

      user_same : (node_at now u).user ≡ (node_at t u).user
      user_same = ap user_of (c.others u)

      here : Climbed t (with_stale now u) k (node_at now u).user
      here = record {
        rest = record { nodes = length-set now.nodes u _ ∙ c.rest.nodes; children = c.rest.children; arities = c.rest.arities; count = c.rest.count };
        others = λ j. elim (cases_eq j u) [
          | inl q ↦ ap stale (subst (λ z. node_at (with_stale now u) z ≡ stale (node_at now z)) (sym q) (get_or-set_same now.nodes u _ _ high)) ∙ c.others j
          | inr n ↦ ap stale (get_or-set_other now.nodes u j _ _ n) ∙ c.others j
        ];
        marked = λ j h. elim (cases_eq j u) [
          | inl q ↦ inr (c.above j (inl (sym q)))
          | inr n ↦ c.marked j (sym (ap (λ (x : Node). x.status) (get_or-set_other now.nodes u j _ _ n)) ∙ h)
        ];
        kept = λ j h. still j (c.kept j h);
        to_come = λ j a. elim (c.to_come j a) [
          | inl h ↦ inl (still j h)
          | inr f ↦ elim f [
            | inl q ↦ inl (subst (λ z. status_at (with_stale now u) z ≡ Stale) q (ap (λ (x : Node). x.status) (get_or-set_same now.nodes u _ _ high)))
            | inr b ↦ inr (subst (λ o. From t o j) (sym user_same) (by_user b))
          ]
        ];
        above = λ j f. c.above j (inr (from_user (node_at now u).user (sym user_same) f));
      }
        where
          still : (j : ℕ) → status_at now j ≡ Stale → status_at (with_stale now u) j ≡ Stale
          still j h = elim (cases_eq j u) [
            | inl q ↦ subst (λ z. status_at (with_stale now u) z ≡ Stale) (sym q) (ap (λ (x : Node). x.status) (get_or-set_same now.nodes u _ _ high))
            | inr n ↦ ap (λ (x : Node). x.status) (get_or-set_other now.nodes u j _ _ n) ∙ h
          ]

  pub nearer : {now : Table} {u : ℕ} → Climbed t now k (Some u) → to_top (node_at now u).user < to_top (Some u)
  nearer {now} {u} c =
      let at = (next_in c).1 in
      less (node_at now u).user (sym (ap user_of (c.others u)))
    where
      less : (o : Option ℕ) → (node_at t u).user ≡ o → to_top o < NODES - u
      less None e = omega (arith, (next_in c).1, s.few)
      less (Some v) e =
          let h = (s.at u (next_in c).1).user_above v e in
          omega (arith, h.0, h.1, s.few)

  pub all_marked : {now : Table} → Climbed t now k None → MarkedAbove t now k
  all_marked {now} c = record {
    rest = c.rest;
    stale = λ j h. (
      λ x. elim (c.marked j x) [ inl y ↦ inl y | inr a ↦ inr (beneath_from_above s low a) ],
      λ x. elim x [
        | inl y ↦ c.kept j y
        | inr b ↦ elim (c.to_come j (above_from_beneath s h b)) [ inl y ↦ y | inr f ↦ absurd f ]
      ],
    );
    others = c.others;
  }
