-- A house at a moment: what its compliant holders have, what was delivered to its nodes, and which
-- lists of records quorums have certified.
use Rattle.std.specs.Prelude.{◌≡◌, ◌⊎◌, List, [], ◌∷◌, ◌++◌, map, take, Option}
use Rattle.std.specs.List.{Contains, AllByRecursion}
use mathlib.Core.List.{IsPrefix}
use Rattle.dh_base.specs.declared.id.Id.{Id}
use Rattle.vote_log.specs.Entry.{Entry}
use Rattle.cert_core.specs.Sets.{SetTold, id_of_set}
use Rattle.claim_core.specs.declared.link.Link.{Link}
use Rattle.claim_core.specs.declared.claim.Claim.{Claim}
use Rattle.claim_core.specs.Chains.{ChainLeadsTo}
use Rattle.claim_core.specs.Certificates.{Certifies}
use Rattle.one_log.specs.Holders.{Holder}

-- links, and the records on which they stand
pub record Chain : Type 0 where
  pub links : List Link
  pub records : List Entry

abbrev pub chain_of : Claim → Chain
chain_of claim = record { links = claim.links; records = claim.recs }

-- The set of epoch 0, the compliant holders by their accounts, and what requests to nodes carried:
-- each claim, and each chain that came without one.
pub record House : Type 0 where
  pub genesis : SetTold
  pub holders : Id → Option Holder
  pub claims : List Claim
  pub chains : List Chain

-- the id of the house, with which each head begins
abbrev pub house_of : House → Id
house_of w = id_of_set w.genesis

abbrev pub IsDelivered : House → Chain → Type 0
IsDelivered w chain = Contains (w.chains ++ map chain_of w.claims) chain

-- The first links of a delivered chain lead to the set.
pub record Reaches (w : House) (chain : Chain) (front : List Link) (set : SetTold) : Type 0 where
  pub delivered : IsDelivered w chain
  pub rest : List Link
  pub parts : front ++ rest ≡ chain.links
  pub leads : ChainLeadsTo (house_of w) chain.records w.genesis front set

-- The lists that quorums certified: the records of each delivered claim that certifies, and for
-- each link to which a delivered chain leads so many first records as it names.
pub data IsCertified (w : House) (log : List Entry) : Type 0 where
  by_claim : (claim : Claim) (set : SetTold) → Contains w.claims claim
      → Certifies w.genesis claim set → log ≡ claim.recs → IsCertified w log
  by_link : (chain : Chain) (front : List Link) (link : Link) (set : SetTold)
      → Reaches w chain (front ++ link ∷ []) set → log ≡ take link.len chain.records
      → IsCertified w log

-- one of the two begins with the other
abbrev pub OneBegins : List Entry → List Entry → Type 0
OneBegins log other = IsPrefix log other ⊎ IsPrefix other log

-- a certified list with which none of these goes on: each of them begins it
pub record HasOneLog (w : House) (lists : List (List Entry)) : Type 0 where
  pub log : List Entry
  pub certified : (log ≡ []) ⊎ IsCertified w log
  pub all : AllByRecursion (λ list. IsPrefix list log) lists
