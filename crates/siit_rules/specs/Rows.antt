-- The rows of the rules: number, name, and the ICMP error that answers a packet dropped by it. The numbers, names and
-- order are this project's own; the answers are those that RFC 7915 names, and this project's own beside them.
use Rattle.std.specs.Prelude.{ℕ, List, codes}
use Rattle.siit_rules.specs.declared.rule.Answer.{Answer}
use Rattle.siit_rules.specs.declared.rule.Answer.TheVariants.{Silent, Icmp4, Icmp6}
use Rattle.siit_rules.specs.declared.rule.Rule.{Rule}
use Rattle.siit_rules.specs.declared.rule.Rule.TheVariants.{NotIp, OtherFamily, Short4, BadHeader4, BadSource4, BadDestination4, FragmentShape4, Expired4, SourceRoute4, Igmp4, ProtocolClash4, UpperShort4, IcmpFragment4, UdpZeroFragment4, UdpZero4, UdpLength4, IcmpType4, IcmpCode4, IcmpPointer4, RoleSource4, RoleDestination4, SourceMap4, DestinationMap4, QuoteShort4, QuoteBad4, NestedTwice4, QuoteType4, QuoteAddress4, TooBig4, Short6, BadHeader6, BadSource6, BadDestination6, ShortExt6, ExtOrder6, ExtAfterFragment6, FragmentShape6, Expired6, SegmentsLeft6, ProtocolClash6, UpperShort6, IcmpFragment6, IcmpType6, IcmpCode6, IcmpPointer6, RoleSource6, RoleDestination6, SourceMap6, DestinationMap6, HairpinSource6, QuoteShort6, QuoteBad6, NestedTwice6, QuoteType6, QuoteAddress6, TooBig6}

pub record Row : Type 0 where
  pub number : ℕ
  pub name : List ℕ
  pub answer : Answer

abbrev row : ℕ → List ℕ → Answer → Row
row number name answer = record { number = number; name = name; answer = answer }

abbrev pub row_of : Rule → Row
row_of NotIp = row 1 (codes "NotIp") Silent
row_of OtherFamily = row 2 (codes "OtherFamily") Silent
row_of Short4 = row 10 (codes "Short4") Silent
row_of BadHeader4 = row 11 (codes "BadHeader4") Silent
row_of BadSource4 = row 12 (codes "BadSource4") Silent
row_of BadDestination4 = row 13 (codes "BadDestination4") Silent
row_of FragmentShape4 = row 14 (codes "FragmentShape4") Silent
row_of Expired4 = row 15 (codes "Expired4") (Icmp4 11 0)
row_of SourceRoute4 = row 16 (codes "SourceRoute4") (Icmp4 3 5)
row_of Igmp4 = row 17 (codes "Igmp4") Silent
row_of ProtocolClash4 = row 18 (codes "ProtocolClash4") (Icmp4 3 13)
row_of UpperShort4 = row 19 (codes "UpperShort4") Silent
row_of IcmpFragment4 = row 20 (codes "IcmpFragment4") Silent
row_of UdpZeroFragment4 = row 21 (codes "UdpZeroFragment4") Silent
row_of UdpZero4 = row 22 (codes "UdpZero4") Silent
row_of UdpLength4 = row 23 (codes "UdpLength4") Silent
row_of IcmpType4 = row 24 (codes "IcmpType4") Silent
row_of IcmpCode4 = row 25 (codes "IcmpCode4") Silent
row_of IcmpPointer4 = row 26 (codes "IcmpPointer4") Silent
row_of RoleSource4 = row 27 (codes "RoleSource4") (Icmp4 3 13)
row_of RoleDestination4 = row 28 (codes "RoleDestination4") (Icmp4 3 13)
row_of SourceMap4 = row 29 (codes "SourceMap4") (Icmp4 3 13)
row_of DestinationMap4 = row 30 (codes "DestinationMap4") (Icmp4 3 13)
row_of QuoteShort4 = row 31 (codes "QuoteShort4") Silent
row_of QuoteBad4 = row 32 (codes "QuoteBad4") Silent
row_of NestedTwice4 = row 33 (codes "NestedTwice4") Silent
row_of QuoteType4 = row 34 (codes "QuoteType4") Silent
row_of QuoteAddress4 = row 35 (codes "QuoteAddress4") Silent
row_of TooBig4 = row 36 (codes "TooBig4") (Icmp4 3 4)
row_of Short6 = row 50 (codes "Short6") Silent
row_of BadHeader6 = row 51 (codes "BadHeader6") Silent
row_of BadSource6 = row 52 (codes "BadSource6") Silent
row_of BadDestination6 = row 53 (codes "BadDestination6") Silent
row_of ShortExt6 = row 54 (codes "ShortExt6") Silent
row_of ExtOrder6 = row 55 (codes "ExtOrder6") Silent
row_of ExtAfterFragment6 = row 56 (codes "ExtAfterFragment6") Silent
row_of FragmentShape6 = row 57 (codes "FragmentShape6") Silent
row_of Expired6 = row 58 (codes "Expired6") (Icmp6 3 0)
row_of SegmentsLeft6 = row 59 (codes "SegmentsLeft6") (Icmp6 4 0)
row_of ProtocolClash6 = row 60 (codes "ProtocolClash6") (Icmp6 1 1)
row_of UpperShort6 = row 61 (codes "UpperShort6") Silent
row_of IcmpFragment6 = row 62 (codes "IcmpFragment6") Silent
row_of IcmpType6 = row 63 (codes "IcmpType6") Silent
row_of IcmpCode6 = row 64 (codes "IcmpCode6") Silent
row_of IcmpPointer6 = row 65 (codes "IcmpPointer6") Silent
row_of RoleSource6 = row 66 (codes "RoleSource6") (Icmp6 1 5)
row_of RoleDestination6 = row 67 (codes "RoleDestination6") (Icmp6 1 1)
row_of SourceMap6 = row 68 (codes "SourceMap6") (Icmp6 1 5)
row_of DestinationMap6 = row 69 (codes "DestinationMap6") (Icmp6 1 1)
row_of HairpinSource6 = row 70 (codes "HairpinSource6") (Icmp6 1 1)
row_of QuoteShort6 = row 71 (codes "QuoteShort6") Silent
row_of QuoteBad6 = row 72 (codes "QuoteBad6") Silent
row_of NestedTwice6 = row 73 (codes "NestedTwice6") Silent
row_of QuoteType6 = row 74 (codes "QuoteType6") Silent
row_of QuoteAddress6 = row 75 (codes "QuoteAddress6") Silent
row_of TooBig6 = row 76 (codes "TooBig6") (Icmp6 2 0)
