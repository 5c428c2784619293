-- The laws of bytes that are put into a lent slice one after the other.
-- Assumes nothing.
use Rattle.std.proofs.Common.{◌≡◌, refl, sym, ap, ◌∙◌, ℕ, ◌+◌, ◌≤◌, List, [], ◌++◌, append_assoc, append-nil, length, take, drop, length-append, length-take, arith}
use Rattle.std.proofs.lemmas.List.{take-append-drop, take_at, drop_at, drop-drop}
use Rattle.print.specs.Put.{Put, PutSome}

pub put-none : (l : List ℕ) (at : ℕ) → Put l at [] l at
put-none l at = record { ends = omega arith; as_long = refl; text = sym (append-nil (take at l)); beyond = refl }

pub put_then : {l m n xs ys : List ℕ} {a b c : ℕ} → Put l a xs m b → Put m b ys n c → Put l a (xs ++ ys) n c
put_then {l} {m} {n} {xs} {ys} {a} {b} {c} p q =
    let later : drop (length ys) (drop b m) ≡ drop (length ys) (drop b l) = ap (drop (length ys)) p.beyond in
    record {
      ends = omega (arith, p.ends, q.ends, length-append xs ys);
      as_long = q.as_long ∙ p.as_long;
      text = rw (q.text, p.text) (append_assoc (take a l) xs ys);
      beyond = q.beyond ∙ rw q.ends (simp drop-drop at later);
    }

-- the same bytes, said otherwise
pub put_as : {l n xs ys : List ℕ} {a c : ℕ} → xs ≡ ys → Put l a xs n c → Put l a ys n c
put_as e p = rw e at p

-- bytes written so that they end at a place, with every other place as before
pub put_written : {l n xs : List ℕ} {a c : ℕ} (b : ℕ) → a + length xs ≡ c → c ≤ length l → b + length xs ≡ c → drop b n ≡ xs ++ drop c l → take b n ≡ take b l → length n ≡ length l
    → Put l a xs n c
put_written {l} {n} {xs} {a} {c} b e inside start written before as_long =
    let split = take-append-drop b n in
    let assoc = append_assoc (take b l) xs (drop c l) in
    let whole : n ≡ (take b l ++ xs) ++ drop c l = cc in
    let size : length (take b l ++ xs) ≡ c = omega (arith, length-append (take b l) xs, length-take b l) in
    let here : a ≡ b = omega arith in
    record {
      ends = sym e;
      as_long = as_long;
      text = rw (whole, here) (take_at (take b l ++ xs) (drop c l) c size);
      beyond = rw whole (drop_at (take b l ++ xs) (drop c l) c size);
    }

-- ---- whatever the bytes are

pub puts_none : (l : List ℕ) (at : ℕ) → PutSome l at l at
puts_none l at = record { bytes = []; put = put-none l at }

pub puts_then : {l m n : List ℕ} {a b c : ℕ} → PutSome l a m b → PutSome m b n c → PutSome l a n c
puts_then p q = record { bytes = p.bytes ++ q.bytes; put = put_then p.put q.put }
