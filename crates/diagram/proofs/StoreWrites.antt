-- What the places of the nodes hold after a write into those of one node, and after work in the working rows.
use Rattle.std.proofs.Common.{◌≡◌, ℕ, ◌+◌, ◌-◌, ◌*◌, ◌<◌, ◌≤◌, List, ◌++◌, length, take, drop, ap, ◌∙◌, sym, ⊎_elim, arith, rules}
use Rattle.std.proofs.lemmas.List.{take-take, length-take, drop_at, drop-drop, length-take-le, take-append-le, take-append-drop, length-append, length-drop, append_assoc, places}
use Rattle.std.proofs.lemmas.Slice.{between_is, take-put_mid_below, drop-put_mid}
use Rattle.std.proofs.lemmas.Bool.{cases_lt}
use borrow.Rule.Slice.PartMut.{put_mid}
use Rattle.diagram.specs.declared.limits.TheConstants.{NODES, ROWS, STORE, TERMS}
use Rattle.diagram.specs.declared.table.Table.{Table}
use Rattle.diagram.specs.Records.{size_at}
use Rattle.diagram.specs.Store.{places_of, StandsAt, row_at, Kept, only, RowPut}

-- ys is written over the first n places of node k
module _ {T : Type 0} (k n : ℕ) (xs ys : List T) (fits : n ≤ TERMS) (long : length ys ≡ n) (within : TERMS * k + TERMS ≤ length xs) where
  before : (j : ℕ) → j < k → places_of j (put_mid (TERMS * k) n xs ys) ≡ places_of j xs
  before j h = between_is _ (TERMS * j) (TERMS * j + TERMS) ∙ ap (drop (TERMS * j)) (take-put_mid_below (TERMS * k) n xs ys (TERMS * j + TERMS) (omega arith) (omega arith)) ∙ sym (between_is xs (TERMS * j) (TERMS * j + TERMS))

  after : (j : ℕ) → k < j → places_of j (put_mid (TERMS * k) n xs ys) ≡ places_of j xs
  after j h = ap (take (TERMS * j + TERMS - TERMS * j)) (drop-put_mid (TERMS * k) n xs ys (TERMS * j) (omega arith) (omega arith) long)

  pub others_kept : (j : ℕ) → ¬ only k j → places_of j (put_mid (TERMS * k) n xs ys) ≡ places_of j xs
  others_kept j apart = ⊎_elim (before j) (λ h. after j (omega arith)) (cases_lt j k)

  pub stands : (row : List T) → length row ≤ n → take (length row) ys ≡ row → StandsAt k row (put_mid (TERMS * k) n xs ys)
  stands row short is =
      take-take (length row) (TERMS * k + TERMS - TERMS * k) _ (omega arith)
      ∙ ap (take (length row)) (drop_at (take (TERMS * k) xs) _ (TERMS * k) (length-take-le (TERMS * k) xs (omega arith)))
      ∙ take-append-le (length row) ys _ (omega arith)
      ∙ is

  pub put : k < NODES → STORE ≤ length xs → (row : List T) → length row ≤ n → take (length row) ys ≡ row → RowPut k row xs (put_mid (TERMS * k) n xs ys)
  put node roomy row short is = record {
    stands = stands row short is;
    others = record {
      places = λ j below apart. others_kept j apart;
      tail = drop-put_mid (TERMS * k) n xs ys STORE (omega arith) (omega arith) long;
      as_long = search (rules, places);
    };
  }

-- the places of a node that lie in the front of a store
pub front : {T : Type 0} (j : ℕ) (xs ys : List T) → TERMS * j + TERMS ≤ length xs → places_of j (xs ++ ys) ≡ places_of j xs
front j xs ys h = between_is (xs ++ ys) (TERMS * j) (TERMS * j + TERMS) ∙ ap (drop (TERMS * j)) (take-append-le (TERMS * j + TERMS) xs ys h) ∙ sym (between_is xs (TERMS * j) (TERMS * j + TERMS))

pub front_of : {T : Type 0} (store : List T) → STORE ≤ length store → (j : ℕ) → j < NODES → places_of j (take ROWS store) ≡ places_of j store
front_of store roomy j node =
    let e = length-take-le ROWS store (omega arith) in
    sym (front j (take ROWS store) (drop ROWS store) (omega arith)) ∙ ap (places_of j) (take-append-drop ROWS store)

-- so the row of such a node is read in the front as in the store
pub same_row : {T : Type 0} (t : Table) (store : List T) → STORE ≤ length store → (rows : List T) → rows ≡ take ROWS store → (c : ℕ) → c < NODES → row_at t rows c ≡ row_at t store c
same_row t store roomy rows is c node = ap (λ r. row_at t r c) is ∙ ap (take (size_at t c)) (front_of store roomy c node)

-- the front, the working rows and the tail, in one again
module _ {T : Type 0} (store rows room next tail : List T) (roomy : STORE ≤ length store) (rows_long : length rows ≡ ROWS) (room_long : length room ≡ TERMS) (next_long : length next ≡ TERMS) (tail_is : tail ≡ drop TERMS (drop TERMS (drop ROWS store))) where
  pub kept : (free : ℕ → Type 0) → ((j : ℕ) → ¬ free j → places_of j rows ≡ places_of j (take ROWS store)) → Kept free store (rows ++ (room ++ (next ++ tail)))
  kept free same = record {
    places = λ j node not_free. front j rows _ (omega arith) ∙ same j not_free ∙ front_of store roomy j node;
    tail = ap (drop STORE) (sym (append_assoc rows room (next ++ tail)) ∙ sym (append_assoc (rows ++ room) next tail)) ∙ drop_at ((rows ++ room) ++ next) tail STORE (omega (arith, length-append (rows ++ room) next, length-append rows room)) ∙ tail_is ∙ ap (drop TERMS) (drop-drop TERMS ROWS store) ∙ drop-drop TERMS 3136 store;
    as_long = rw tail_is (omega (arith, length-append {A = T}, length-drop {A = T}));
  }

-- a row is as long as its record tells
pub row_as_long : {T : Type 0} (t : Table) (rows : List T) (k : ℕ) (row : List T) → row ≡ row_at t rows k → k < NODES → size_at t k ≤ TERMS → ROWS ≤ length rows → length row ≡ size_at t k
row_as_long t rows k row is node sized roomy = rw is (omega (arith, length-take (size_at t k) (places_of k rows), length-take (TERMS * k + TERMS - TERMS * k) (drop (TERMS * k) rows), length-drop (TERMS * k) rows))

-- a row as it is cut from the store
pub row_cut : {T : Type 0} (t : Table) (rows : List T) (k : ℕ) → size_at t k ≤ TERMS → take (TERMS * k + size_at t k - TERMS * k) (drop (TERMS * k) rows) ≡ row_at t rows k
row_cut t rows k sized =
    let width : TERMS * k + size_at t k - TERMS * k ≡ size_at t k = omega arith in
    ap (λ n. take n (drop (TERMS * k) rows)) width ∙ sym (take-take (size_at t k) (TERMS * k + TERMS - TERMS * k) (drop (TERMS * k) rows) (omega (arith, sized)))
