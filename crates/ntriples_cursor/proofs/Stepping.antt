-- Laws of the steps of a cursor through a term. Assumes nothing.
use Prim.Native.Nat.{ℕ, ◌+◌, ◌≤◌, ◌<◌}
use Prim.Native.Char.{code}
use mathlib.Core.Path.{◌≡◌, refl, sym, ap, ◌∙◌}
use mathlib.Core.List.{List, [], ◌∷◌, ◌++◌, append_assoc}
use native.Mathlib.Omega.{arith}
use lib.ListN.{length}
use lib.Seq.{length-take-le}
use Rattle.spec_ntriples.specs.Utf8.{is_between, utf8, encode_char}
use Rattle.spec_ntriples.specs.Characters.{codes}
use Rattle.spec_ntriples.specs.computed.Terminals.{iri_step, string_step}
use Rattle.spec_ntriples.specs.Texts.{lower_char, Text, text, iri_text, blank_text, canonical_char, canonical_chars}
use Rattle.ntriples_bytes.specs.inside.Places.{At, Marks}
use Rattle.ntriples_bytes.specs.declared.Mark.{Mark}
use Rattle.ntriples_bytes.proofs.Decoding.{at_same}
use Rattle.ntriples_cursor.specs.declared.Mode.TheVariants.{Iri, Label, Quoted, Tag}
use Rattle.ntriples_cursor.specs.declared.Cursor.{Cursor}
use Rattle.ntriples_cursor.specs.declared.Piece.{Piece}
use Rattle.ntriples_cursor.specs.inside.Readers.{Gives}
use Rattle.ntriples_cursor.specs.inside.Coming.{Coming, IriComing, LabelComing, StringComing, Holds, Splits, Stepped, IriStepped, TagComing, SuffixComing, TermComing, Typed, Shown, typed_at, tagged_at, lowered, AreAscii}
use Rattle.ntriples_bytes.proofs.Marking.{by_test}
use Rattle.ntriples_cursor.proofs.Readers.{iri_reader, string_reader, outside-closed, encode_canonical}
use Rattle.ntriples_cursor.proofs.Widths.{next_place, same_place, width_some}
use Rattle.ntriples_cursor.proofs.Terms.{Opened, iri, blank, literal, open-object}
use Rattle.ntriples_cursor.proofs.Following.{mark_front}

-- ---- pieces

-- A piece that holds the first of bytes that are to come.
pub splits-by
    : (line : List ℕ) (end place : ℕ) (bytes text later : List ℕ) (next : Cursor) (p : Piece) → Holds text next p → bytes ≡ text ++ later → Coming line end next later
    → place < next.place → place + length text ≤ next.place → Splits line end place bytes later p
splits-by line end place bytes text later next p H e C h k =
    let l : p.len ≡ length text = sym (length-take-le p.len p.bytes (omega (arith, H.few, H.four))) ∙ ap length H.bytes in
    record {
      same = e ∙ ap (λ (x : List ℕ). x ++ later) (sym H.bytes);
      coming = rw H.leads C;
      few = H.few;
      four = H.four;
      goes = omega (arith, ap (λ (c : Cursor). c.place) H.leads);
      room = omega (arith, ap (λ (c : Cursor). c.place) H.leads);
    }

-- ---- inside IRIs

module _ (line : List ℕ) (end place : ℕ) (bytes : List ℕ) (p : Piece) where
  -- At the mark that closes one.
  pub iri-closed : IriComing line end place bytes → (m : Mark) (M : Marks line place m) → m.code ≡ 0x3E → Holds (0x3E ∷ []) (record { place = m.next; mode = Label }) p → IriStepped line end place bytes p
  unfolding utf8
  iri-closed I m M e H =
      let D = outside-closed line iri_step (code ">") iri_reader I.given I.rest place m M I.reads e in
      let A : At line m.next I.rest = rw D.1 at M.rest in
      let C : LabelComing line end m.next [] = record { given = []; rest = I.rest; stands = A; ends = I.ends; same = refl } in
      let b : bytes ≡ (0x3E ∷ []) ++ [] = I.same ∙ rw D.0 in
      record {
        later = [];
        splits = splits-by line end place bytes (0x3E ∷ []) [] (record { place = m.next; mode = Label }) p H b C M.after (omega (arith, M.after));
        inside = λ h. absurd (omega (arith, same_place line m.next end I.rest A I.ends, ap (λ (c : Cursor). c.place) H.leads));
      }

  -- At another character.
  pub iri_more : (I : IriComing line end place bytes) (m : Mark) → Gives line place 0 iri_step I.given I.rest m → Holds (encode_char m.code) (record { place = m.next; mode = Iri }) p → IriStepped line end place bytes p
  unfolding utf8
  iri_more I m G H =
      let C : IriComing line end m.next (utf8 G.later ++ (code ">" ∷ [])) = record { given = G.later; rest = I.rest; reads = G.reads; ends = I.ends; same = refl } in
      let b : bytes ≡ encode_char m.code ++ (utf8 G.later ++ (code ">" ∷ [])) = I.same ∙ ap (λ (l : List ℕ). utf8 l ++ (code ">" ∷ [])) G.same ∙ append_assoc (encode_char m.code) (utf8 G.later) (code ">" ∷ []) in
      record {
        later = utf8 G.later ++ (code ">" ∷ []);
        splits = splits-by line end place bytes (encode_char m.code) _ (record { place = m.next; mode = Iri }) p H b C (omega (arith, G.room, encode_canonical m.code, width_some m.code)) (omega (arith, G.room, encode_canonical m.code));
        inside = λ h. rw H.leads C;
      }

-- ---- inside strings

-- What follows one, behind the quote that closes it.
pub string_behind : (line : List ℕ) (end place : ℕ) (bytes : List ℕ) (S : StringComing line end place bytes) (m : Mark) → Marks line place m → m.code ≡ 0x22 → At line m.next S.behind
string_behind line end place bytes S m M e = rw (outside-closed line string_step (code "\"") string_reader S.given S.behind place m M S.reads e).1 at M.rest

module _ (line : List ℕ) (end place : ℕ) (bytes : List ℕ) (p : Piece) where
  -- At the quote that closes one.
  pub string-closed
      : (S : StringComing line end place bytes) (m : Mark) (M : Marks line place m) → m.code ≡ 0x22 → (next : Cursor) → Coming line end next S.more → m.next ≤ next.place
      → Holds (0x22 ∷ []) next p → Stepped line end place bytes p
  unfolding canonical_chars
  string-closed S m M e next C h H =
      let D = outside-closed line string_step (code "\"") string_reader S.given S.behind place m M S.reads e in
      let b : bytes ≡ (0x22 ∷ []) ++ S.more = S.same ∙ rw D.0 in
      record { later = S.more; splits = splits-by line end place bytes (0x22 ∷ []) S.more next p H b C (omega (arith, M.after)) (omega (arith, M.after)) }

  -- At another character.
  pub string_more
      : (S : StringComing line end place bytes) (m : Mark) → Gives line place 0 string_step S.given S.behind m → Holds (canonical_char m.code) (record { place = m.next; mode = Quoted }) p
      → Stepped line end place bytes p
  unfolding canonical_chars
  string_more S m G H =
      let C : StringComing line end m.next (canonical_chars G.later ++ (code "\"" ∷ S.more)) =
      record { given = G.later; behind = S.behind; rest = S.rest; more = S.more; reads = G.reads; ends = S.ends; follows = S.follows; same = refl } in
      let b : bytes ≡ canonical_char m.code ++ (canonical_chars G.later ++ (code "\"" ∷ S.more)) =
      S.same ∙ ap (λ (l : List ℕ). canonical_chars l ++ (code "\"" ∷ S.more)) G.same ∙ append_assoc (canonical_char m.code) (canonical_chars G.later) (code "\"" ∷ S.more) in
      record {
        later = canonical_chars G.later ++ (code "\"" ∷ S.more);
        splits = splits-by line end place bytes (canonical_char m.code) _ (record { place = m.next; mode = Quoted }) p H b C (omega (arith, G.room, encode_canonical m.code, width_some m.code)) (omega (arith, G.room));
      }

-- ---- inside labels and tags

-- Before the end of some characters one of them stands.
pub record FrontChar (line : List ℕ) (given rest : List ℕ) (m : Mark) : Type 0 where
  pub later : List ℕ
  pub same : given ≡ m.code ∷ later
  pub stands : At line m.next (later ++ rest)

front_char : (line : List ℕ) (end place : ℕ) (given rest : List ℕ) (m : Mark) → Marks line place m → place < end → At line place (given ++ rest) → At line end rest → FrontChar line given rest m
front_char line end place [] rest m M h A E = absurd (omega (arith, same_place line place end rest A E))
front_char line end place (c ∷ cs) rest m M h A E =
    let F = mark_front line place c (cs ++ rest) m M A in
    record { later = cs; same = ap (λ (x : ℕ). x ∷ cs) (sym F.0); stands = F.1 }

module _ (line : List ℕ) (end place : ℕ) (bytes : List ℕ) (p : Piece) (m : Mark) (M : Marks line place m) (h : place < end) where
  pub label_more : LabelComing line end place bytes → Holds (encode_char m.code) (record { place = m.next; mode = Label }) p → Stepped line end place bytes p
  unfolding utf8
  label_more L H =
      let F = front_char line end place L.given L.rest m M h L.stands L.ends in
      let C : LabelComing line end m.next (utf8 F.later) = record { given = F.later; rest = L.rest; stands = F.stands; ends = L.ends; same = refl } in
      let b : bytes ≡ encode_char m.code ++ utf8 F.later = L.same ∙ ap utf8 F.same in
      let w : m.next ≡ place + length (encode_char m.code) = next_place line place m.next m.code M.behind M.stands M.rest in
      record { later = utf8 F.later; splits = splits-by line end place bytes (encode_char m.code) _ (record { place = m.next; mode = Label }) p H b C M.after (omega arith) }

  pub tag_more : (c : ℕ) → c ≡ lower_char m.code → TagComing line end place bytes → Holds (c ∷ []) (record { place = m.next; mode = Tag }) p → Stepped line end place bytes p
  unfolding lowered
  tag_more c e T H =
      let F = front_char line end place T.given T.rest m M h T.stands T.ends in
      let a : AreAscii (m.code ∷ F.later) = rw F.same at T.ascii in
      let C : TagComing line end m.next (lowered F.later) = record { given = F.later; rest = T.rest; stands = F.stands; ends = T.ends; ascii = a.1; same = refl } in
      let b : bytes ≡ (c ∷ []) ++ lowered F.later = T.same ∙ ap lowered F.same ∙ ap (λ (x : ℕ). x ∷ lowered F.later) (sym e) in
      record { later = lowered F.later; splits = splits-by line end place bytes (c ∷ []) _ (record { place = m.next; mode = Tag }) p H b C M.after (omega (arith, M.after)) }

-- A tag's character.
pub tag_small : (line : List ℕ) (end place : ℕ) (bytes : List ℕ) (m : Mark) → Marks line place m → place < end → TagComing line end place bytes → m.code < 0x80
tag_small line end place bytes m M h T =
    let F = front_char line end place T.given T.rest m M h T.stands T.ends in
    let a : AreAscii (m.code ∷ F.later) = rw F.same at T.ascii in
    a.0

-- In lower case.
pub lower_small : (c : ℕ) → lower_char c ≤ c + 32
unfolding lower_char
lower_small c = by_test (is_between 65 90 c) (λ q. rw q (omega arith)) (λ q. rw q (omega arith))

-- ---- at a mark

module _ (line : List ℕ) (end place : ℕ) (bytes : List ℕ) (S : SuffixComing line end place bytes) (m : Mark) (M : Marks line place m) where
  -- A datatype.
  pub record TypeShown : Type 0 where
    pub given : List ℕ
    pub typed : Typed S.chars S.rest given
    pub same : bytes ≡ codes "^^" ++ iri_text given

  pub shown_type : (m.code ≡ 0x40 → ⊥) → TypeShown
  shown_type n = go S.shown
    where
      go : Shown S.chars S.rest bytes → TypeShown
      go (typed_at given T q) = record { given = given; typed = T; same = q }
      go (tagged_at given G q) = absurd (n (mark_front line place (code "@") (given ++ S.rest) m M (rw G.marks at S.stands)).0)

  pub type_more : (T : TypeShown) (p : Piece) (next : ℕ) → At line next T.typed.inner → place + 3 ≤ next → Holds (0x5E ∷ 0x5E ∷ 0x3C ∷ []) (record { place = next; mode = Iri }) p → Stepped line end place bytes p
  unfolding iri_text codes
  type_more T p next A h H =
      let C : IriComing line end next (utf8 T.given ++ (code ">" ∷ [])) = record { given = T.given; rest = S.rest; reads = record { chars = T.typed.inner; stands = A; scans = T.typed.scans }; ends = S.ends; same = refl } in
      record { later = utf8 T.given ++ (code ">" ∷ []); splits = splits-by line end place bytes (0x5E ∷ 0x5E ∷ 0x3C ∷ []) _ (record { place = next; mode = Iri }) p H T.same C (omega arith) (omega arith) }

  -- A tag.
  pub tag_first : m.code ≡ 0x40 → (p : Piece) → Holds (0x40 ∷ []) (record { place = m.next; mode = Tag }) p → Stepped line end place bytes p
  tag_first e p H = go S.shown
    where
      go : Shown S.chars S.rest bytes → Stepped line end place bytes p
      go (typed_at given T q) = let f : m.code ≡ 0x5E = (mark_front line place (code "^") (code "^" ∷ T.behind) m M (rw T.marks at S.stands)).0 in absurd (omega arith)
      go (tagged_at given G q) =
          let A : At line m.next (given ++ S.rest) = (mark_front line place (code "@") (given ++ S.rest) m M (rw G.marks at S.stands)).1 in
          let C : TagComing line end m.next (lowered given) = record { given = given; rest = S.rest; stands = A; ends = S.ends; ascii = G.ascii; same = refl } in
          record { later = lowered given; splits = splits-by line end place bytes (0x40 ∷ []) (lowered given) (record { place = m.next; mode = Tag }) p H q C M.after (omega (arith, M.after)) }

-- ---- at the beginning of a term

module _ (line : List ℕ) (end place : ℕ) (bytes : List ℕ) (T : TermComing line end place bytes) (m : Mark) (M : Marks line place m) where
  term_opened : Opened (m.code ∷ M.behind) T.has.rest T.text
  term_opened = rw (at_same line place T.has.chars (m.code ∷ M.behind) T.has.starts M.stands) at (open-object T.has.chars T.has.rest T.text T.has.reads)

  text_bytes : (k : ℕ) (bs : List ℕ) → T.text ≡ text k bs → bytes ≡ bs
  text_bytes k bs e = T.same ∙ ap (λ (t : Text). t.bytes) e

  -- A literal.
  pub term-literal : m.code ≡ 0x22 → (p : Piece) → Holds (0x22 ∷ []) (record { place = m.next; mode = Quoted }) p → Stepped line end place bytes p
  term-literal e p H = go term_opened
    where
      go : Opened (m.code ∷ M.behind) T.has.rest T.text → Stepped line end place bytes p
      go (iri I) = let f : m.code ∷ M.behind ≡ 0x3C ∷ I.inner = I.opens in let g : m.code ≡ 0x3C = cc in absurd (omega arith)
      go (blank given k q) = let f : m.code ∷ M.behind ≡ 0x5F ∷ 0x3A ∷ (given ++ T.has.rest) = k in let g : m.code ≡ 0x5F = cc in absurd (omega arith)
      go (literal inner given behind more k f F q) =
          let g : m.code ∷ M.behind ≡ 0x22 ∷ inner = k in
          let i : M.behind ≡ inner = cc in
          let C : StringComing line end m.next (canonical_chars given ++ (code "\"" ∷ more)) =
          record { given = given; behind = behind; rest = T.has.rest; more = more; reads = record { chars = inner; stands = rw i at M.rest; scans = f }; ends = T.has.behind; follows = F; same = refl } in
          record {
            later = canonical_chars given ++ (code "\"" ∷ more);
            splits = splits-by line end place bytes (0x22 ∷ []) _ (record { place = m.next; mode = Quoted }) p H (text_bytes 2 _ q) C M.after (omega (arith, M.after));
          }

  -- An IRI.
  pub term_iri : (m.code ≡ 0x22 → ⊥) → (m.code ≡ 0x5F → ⊥) → (p : Piece) → Holds (0x3C ∷ []) (record { place = m.next; mode = Iri }) p → Stepped line end place bytes p
  unfolding iri_text
  term_iri n o p H = go term_opened
    where
      go : Opened (m.code ∷ M.behind) T.has.rest T.text → Stepped line end place bytes p
      go (blank given k q) = let f : m.code ∷ M.behind ≡ 0x5F ∷ 0x3A ∷ (given ++ T.has.rest) = k in absurd (o (cc))
      go (literal inner given behind more k f F q) = let g : m.code ∷ M.behind ≡ 0x22 ∷ inner = k in absurd (n (cc))
      go (iri I) =
          let g : m.code ∷ M.behind ≡ 0x3C ∷ I.inner = I.opens in
          let i : M.behind ≡ I.inner = cc in
          let C : IriComing line end m.next (utf8 I.given ++ (code ">" ∷ [])) =
          record { given = I.given; rest = T.has.rest; reads = record { chars = I.inner; stands = rw i at M.rest; scans = I.scans }; ends = T.has.behind; same = refl } in
          record {
            later = utf8 I.given ++ (code ">" ∷ []);
            splits = splits-by line end place bytes (0x3C ∷ []) _ (record { place = m.next; mode = Iri }) p H (text_bytes 0 _ I.same) C M.after (omega (arith, M.after));
          }

  -- A blank node: a colon stands next.
  pub record BlankFound : Type 0 where
    pub given : List ℕ
    pub stands : At line m.next (code ":" ∷ (given ++ T.has.rest))
    pub same : bytes ≡ 0x5F ∷ 0x3A ∷ utf8 given

  pub term_colon : m.code ≡ 0x5F → BlankFound
  unfolding blank_text codes
  term_colon e = go term_opened
    where
      go : Opened (m.code ∷ M.behind) T.has.rest T.text → BlankFound
      go (iri I) = let f : m.code ∷ M.behind ≡ 0x3C ∷ I.inner = I.opens in let g : m.code ≡ 0x3C = cc in absurd (omega arith)
      go (literal inner given behind more k f F q) = let g : m.code ∷ M.behind ≡ 0x22 ∷ inner = k in let h : m.code ≡ 0x22 = cc in absurd (omega arith)
      go (blank given k q) =
          let f : m.code ∷ M.behind ≡ 0x5F ∷ 0x3A ∷ (given ++ T.has.rest) = k in
          let g : M.behind ≡ 0x3A ∷ (given ++ T.has.rest) = cc in
          record { given = given; stands = rw g at M.rest; same = text_bytes 1 _ q }

  pub term_blank : (B : BlankFound) (n : Mark) (N : Marks line m.next n) (p : Piece) → Holds (0x5F ∷ 0x3A ∷ []) (record { place = n.next; mode = Label }) p → Stepped line end place bytes p
  term_blank B n N p H =
      let A = (mark_front line m.next (code ":") (B.given ++ T.has.rest) n N B.stands).1 in
      let C : LabelComing line end n.next (utf8 B.given) = record { given = B.given; rest = T.has.rest; stands = A; ends = T.has.behind; same = refl } in
      record {
        later = utf8 B.given;
        splits = splits-by line end place bytes (0x5F ∷ 0x3A ∷ []) _ (record { place = n.next; mode = Label }) p H B.same C (omega (arith, M.after, N.after)) (omega (arith, M.after, N.after));
      }
