-- A deal and a house: Ben lends Ann three coins, and she gives one back. One seat keeps the log.
use Rattle.std.specs.Prelude.{ℕ, ◌/◌, List, [], ◌∷◌, codes, replicate}
use Rattle.sha2.specs.Sha256.{sha256}
use Rattle.dh_base.specs.declared.id.Id.{Id}
use Rattle.key_ring.specs.Rings.{ring_text}
use Rattle.key_ring.specs.Making.{ring_made, envelope_made}
use Rattle.cert_core.specs.Sets.{SetTold, id_of_set}
use Rattle.cert_core.specs.SeatTexts.{prefix_text}
use Rattle.deal_core.specs.Deals.{DealTold}
use Rattle.deal_core.specs.DealText.{deal_text}
use Rattle.deal_core.specs.declared.step.Step.{Step}
use Rattle.clear_core.specs.declared.plan_act.PlanAct.{PlanAct}
use Rattle.clear_core.specs.declared.plan_act.PlanAct.TheVariants.{Register, Escrow, Transfer}
use Rattle.escrow_book.specs.Opening.{Row}
use Rattle.ledger_rows.specs.declared.entry.Entry.{Entry}
use Rattle.vote_log.specs.Entry.{Entry as Rec}
use Rattle.vote_log.specs.Heads.{head_after}
use Rattle.claim_core.specs.declared.claim.Claim.{Claim}
use Rattle.compliant_deals.specs.Parts.{act_by}
use Rattle.compliant_deals.specs.Complying.{entry_of}
use Rattle.compliant_deals.specs.CommitLogs.{whole_log}

-- ---- the house

abbrev pub ann : Id
ann = record { 0 = replicate 32 1 }

abbrev pub ben : Id
ben = record { 0 = replicate 32 2 }

abbrev pub seed : List ℕ
seed = replicate 32 3

abbrev pub ident : List ℕ
ident = replicate 16 4

-- the account of a ring of one key
abbrev pub seat : Id
seat = record { 0 = sha256 (ring_text (ring_made seed ident 1)) }

abbrev pub the_set : SetTold
the_set = record { epoch = 0; f = 0; seats = seat ∷ [] }

abbrev pub coins : List ℕ
coins = codes "coins"

abbrev pub coin : List ℕ
coin = codes "coin"

-- ---- the deal

abbrev pub lend : Step
lend = record { from = 1; to = 0; ledger = coins; asset = coin; amount = 3 }

abbrev pub give_back : Step
give_back = record { from = 0; to = 1; ledger = coins; asset = coin; amount = 1 }

-- the deal under an id
abbrev pub deal_under : Id → DealTold
deal_under id = record {
  id = id;
  house = id_of_set the_set;
  name = codes "loan";
  parties =
      record { name = codes "ann"; account = ann } ∷ record { name = codes "ben"; account = ben }
      ∷ [];
  steps = lend ∷ give_back ∷ [];
}

-- its text, which leaves the id out, and which gives the id
abbrev pub the_text : List ℕ
the_text = deal_text (deal_under ann)

abbrev pub the_deal : DealTold
the_deal = deal_under (record { 0 = sha256 the_text })

-- ---- what the ledger accepts

abbrev pub rows : List Row
rows = (ben, coin, 3) ∷ []

abbrev pub ann_gives : PlanAct
ann_gives = Transfer coins 0 1 coin 1

-- each party's acts are under its keys 0 and 1
abbrev pub key : ℕ → ℕ
key place = place / 2

abbrev pub register_entry : Entry
register_entry = entry_of the_deal (act_by 0 Register) 0

abbrev pub later_entries : List Entry
later_entries =
    entry_of the_deal (act_by 1 (Escrow coins coin 3)) 0
    ∷ entry_of the_deal (act_by 1 (Transfer coins 0 0 coin 3)) 1
    ∷ entry_of the_deal (act_by 0 ann_gives) 1 ∷ []

abbrev pub the_entries : List Entry
the_entries = register_entry ∷ later_entries

-- ---- what the seat signs

abbrev pub the_log : List Rec
the_log = whole_log the_deal.id 2

abbrev pub the_head : Id
the_head = head_after (id_of_set the_set) the_log

abbrev pub the_claim : Claim
the_claim = record {
  links = [];
  recs = the_log;
  head = the_head;
  sigs = record {
    seat = 0;
    env = envelope_made seed ident 1 0 (prefix_text (id_of_set the_set) 3 the_head);
  } ∷ [];
}
