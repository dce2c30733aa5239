-- The entry that the code's set of links finds is the one that the table has.
use Rattle.std.proofs.Common.{◌≡◌, ◌≢◌, ◌⊎◌, inl, inr, eqb, ◌&&◌, ℕ, zero, suc, ◌+◌, ◌-◌, Bool, true, false, List, [], ◌∷◌, ◌++◌, length, refl, ap, sym, ◌∙◌, arith, Option, Some, None}
use Rattle.std.specs.Prelude.{if◌then◌else◌, slice_get, option_map}
use Rattle.std.proofs.lemmas.Option.{slice_get-map}
use Rattle.std.proofs.lemmas.Bool.{cases_eq}
use Rattle.std.proofs.lemmas.Bool.Decides.{nat_tests}
use Rattle.std.proofs.Math.Bool.{and_assoc}
use Rattle.std.specs.List.{list_any, position_or_len}
use Rattle.std.proofs.lemmas.List.{length-map, map-append}
use Rattle.hw_base.specs.declared.pointers.Site.{Site}
use Rattle.dbg_sites.specs.declared.chains.Link.{Link}
use Rattle.dbg_sites.specs.ChainTable.{ChainEntry, is_entry, entry_from, numbered, part_of, pushed}
use Rattle.dbg_sites.specs.ChainLinks.{entry_of, entries_of}

entry_from-here : (entry : ChainEntry) (table : List ChainEntry) (site : Site) (rest place : ℕ) → is_entry site rest entry ≡ true → entry_from (entry ∷ table) site rest place ≡ Some place
unfolding entry_from
entry_from-here entry table site rest place h =
    let found : Bool → Option ℕ = λ b. elim b [ true ↦ Some place | false ↦ entry_from table site rest (place + 1) ] in
    ap found h

entry_from-later : (entry : ChainEntry) (table : List ChainEntry) (site : Site) (rest place : ℕ) → is_entry site rest entry ≡ false → entry_from (entry ∷ table) site rest place ≡ entry_from table site rest (place + 1)
unfolding entry_from
entry_from-later entry table site rest place h =
    let found : Bool → Option ℕ = λ b. elim b [ true ↦ Some place | false ↦ entry_from table site rest (place + 1) ] in
    ap found h

-- what a test finds in links, counted from a place on
found_by : (Link → Bool) → List Link → (place : ℕ) → Option ℕ
found_by test links place = if list_any test links then Some (place + position_or_len test links) else None

found_by-here : (test : Link → Bool) (link : Link) (links : List Link) (place : ℕ) → test link ≡ true → found_by test (link ∷ links) place ≡ Some place
unfolding found_by
found_by-here test link links place h = let at : place + 0 ≡ place = omega arith in rw (h, at) refl

found_by-later : (test : Link → Bool) (link : Link) (links : List Link) (place : ℕ) → test link ≡ false → found_by test (link ∷ links) place ≡ found_by test links (place + 1)
unfolding found_by
found_by-later test link links place h =
    let at : place + (1 + position_or_len test links) ≡ place + 1 + position_or_len test links = omega arith in
    rw (h, at) refl

-- the place of the entry of the first link that a test finds, if the test is for that entry
entry_from-links : (test : Link → Bool) (site : Site) (rest : ℕ) → ((link : Link) → test link ≡ is_entry site rest (entry_of link)) → (links : List Link) (place : ℕ)
    → entry_from (entries_of links) site rest place ≡ found_by test links place
unfolding entry_from found_by
entry_from-links test site rest same [] place = refl
entry_from-links test site rest same (link ∷ links) place = by (test link) refl (entry_from-links test site rest same links (place + 1))
  where
    by : (t : Bool) → test link ≡ t → entry_from (entries_of links) site rest (place + 1) ≡ found_by test links (place + 1)
        → entry_from (entries_of (link ∷ links)) site rest place ≡ found_by test (link ∷ links) place
    by true e later =
        entry_from-here (entry_of link) (entries_of links) site rest place (sym (same link) ∙ e) ∙ sym (found_by-here test link links place e)
    by false e later =
        entry_from-later (entry_of link) (entries_of links) site rest place (sym (same link) ∙ e) ∙ (later ∙ sym (found_by-later test link links place e))

-- the links after one was put among them, if it isn't there
links_with : (Link → Bool) → List Link → Link → List Link
links_with test links link = if list_any test links then links else links ++ link ∷ []

position-absent : (test : Link → Bool) (links : List Link) → list_any test links ≡ false → position_or_len test links ≡ length links
position-absent test [] h = refl
position-absent test (link ∷ links) h = by (test link) refl h (position-absent test links)
  where
    by : (t : Bool) → test link ≡ t → list_any test (link ∷ links) ≡ false → (list_any test links ≡ false → position_or_len test links ≡ length links)
        → position_or_len test (link ∷ links) ≡ length (link ∷ links)
    by true e found later = let none : true ≡ false = rw e at found in cc
    by false e found later =
        let none : list_any test links ≡ false = rw e at found in
        let same = later none in
        rw e (omega arith)

numbered-links : (test : Link → Bool) (link : Link) (links : List Link) (b : Bool) → list_any test links ≡ b
    → numbered (entries_of links) (record { func = link.func; inst = link.inst }) link.rest (found_by test links 0)
    ≡ record { table = entries_of (links_with test links link); number = position_or_len test links + 1 }
unfolding found_by links_with
numbered-links test link links true e = let at : 0 + position_or_len test links ≡ position_or_len test links = omega arith in rw (e, at) refl
numbered-links test link links false e =
    rw (e, position-absent test links e, map-append entry_of links (link ∷ []), length-map links entry_of) refl

-- a chain whose link is put into the set: the table and its number
pub pushed-links : (test : Link → Bool) (link : Link) → ((other : Link) → test other ≡ is_entry (record { func = link.func; inst = link.inst }) link.rest (entry_of other)) → (links : List Link)
    → pushed (entries_of links) link.rest (record { func = link.func; inst = link.inst })
    ≡ record { table = entries_of (if list_any test links then links else links ++ link ∷ []); number = position_or_len test links + 1 }
unfolding pushed links_with
pushed-links test link same links =
    let site : Site = record { func = link.func; inst = link.inst } in
    rw (entry_from-links test site link.rest same links 0) (numbered-links test link links (list_any test links) refl)

-- the part of a number by the links
pub part_of-link : (links : List Link) (chain : ℕ) (link : Link) → chain ≢ 0 → slice_get links (chain - 1) ≡ Some link → part_of (entries_of links) chain ≡ Some (entry_of link)
part_of-link links zero link h found = absurd (h refl)
part_of-link links (suc place) link h found =
    let at : suc place - 1 ≡ place = omega arith in
    let here : slice_get links place ≡ Some link = rw at at found in
    slice_get-map entry_of links place ∙ ap (option_map entry_of) here

pub part_of-none : (links : List Link) (chain : ℕ) → chain ≢ 0 → slice_get links (chain - 1) ≡ None → part_of (entries_of links) chain ≡ None
part_of-none links zero h found = absurd (h refl)
part_of-none links (suc place) h found =
    let at : suc place - 1 ≡ place = omega arith in
    let here : slice_get links place ≡ None = rw at at found in
    slice_get-map entry_of links place ∙ ap (option_map entry_of) here

eqb-comm : (a b : ℕ) → eqb a b ≡ eqb b a
eqb-comm a b = by (cases_eq a b)
  where
    by : (a ≡ b) ⊎ (a ≢ b) → eqb a b ≡ eqb b a
    by (inl same) = rw same refl
    by (inr apart) = grind (arith, nat_tests)

-- two links are equal if their entries are
pub same-entry : (link other : Link) → (eqb link.func other.func && (eqb link.inst other.inst && eqb link.rest other.rest)) ≡ is_entry (record { func = link.func; inst = link.inst }) link.rest (entry_of other)
same-entry link other = rw (eqb-comm link.func other.func, eqb-comm link.inst other.inst, eqb-comm link.rest other.rest) (sym (and_assoc (eqb other.func link.func) (eqb other.inst link.inst) (eqb other.rest link.rest)))
