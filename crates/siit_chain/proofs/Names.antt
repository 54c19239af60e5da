-- The names of rules are short.
use Rattle.std.proofs.Common.{◌≤◌, arith, length}
use Rattle.siit_rules.specs.Rows.{row_of}
use Rattle.siit_rules.specs.declared.rule.Rule.{Rule}
use Rattle.siit_rules.specs.declared.rule.Rule.TheVariants.{NotIp, OtherFamily, Short4, BadHeader4, BadSource4, BadDestination4, FragmentShape4, Expired4, SourceRoute4, Igmp4, ProtocolClash4, UpperShort4, IcmpFragment4, UdpZeroFragment4, UdpZero4, UdpLength4, IcmpType4, IcmpCode4, IcmpPointer4, RoleSource4, RoleDestination4, SourceMap4, DestinationMap4, QuoteShort4, QuoteBad4, NestedTwice4, QuoteType4, QuoteAddress4, TooBig4, Short6, BadHeader6, BadSource6, BadDestination6, ShortExt6, ExtOrder6, ExtAfterFragment6, FragmentShape6, Expired6, SegmentsLeft6, ProtocolClash6, UpperShort6, IcmpFragment6, IcmpType6, IcmpCode6, IcmpPointer6, RoleSource6, RoleDestination6, SourceMap6, DestinationMap6, HairpinSource6, QuoteShort6, QuoteBad6, NestedTwice6, QuoteType6, QuoteAddress6, TooBig6}

pub name_length : (rule : Rule) → length (row_of rule).name ≤ 17
name_length NotIp = omega arith
name_length OtherFamily = omega arith
name_length Short4 = omega arith
name_length BadHeader4 = omega arith
name_length BadSource4 = omega arith
name_length BadDestination4 = omega arith
name_length FragmentShape4 = omega arith
name_length Expired4 = omega arith
name_length SourceRoute4 = omega arith
name_length Igmp4 = omega arith
name_length ProtocolClash4 = omega arith
name_length UpperShort4 = omega arith
name_length IcmpFragment4 = omega arith
name_length UdpZeroFragment4 = omega arith
name_length UdpZero4 = omega arith
name_length UdpLength4 = omega arith
name_length IcmpType4 = omega arith
name_length IcmpCode4 = omega arith
name_length IcmpPointer4 = omega arith
name_length RoleSource4 = omega arith
name_length RoleDestination4 = omega arith
name_length SourceMap4 = omega arith
name_length DestinationMap4 = omega arith
name_length QuoteShort4 = omega arith
name_length QuoteBad4 = omega arith
name_length NestedTwice4 = omega arith
name_length QuoteType4 = omega arith
name_length QuoteAddress4 = omega arith
name_length TooBig4 = omega arith
name_length Short6 = omega arith
name_length BadHeader6 = omega arith
name_length BadSource6 = omega arith
name_length BadDestination6 = omega arith
name_length ShortExt6 = omega arith
name_length ExtOrder6 = omega arith
name_length ExtAfterFragment6 = omega arith
name_length FragmentShape6 = omega arith
name_length Expired6 = omega arith
name_length SegmentsLeft6 = omega arith
name_length ProtocolClash6 = omega arith
name_length UpperShort6 = omega arith
name_length IcmpFragment6 = omega arith
name_length IcmpType6 = omega arith
name_length IcmpCode6 = omega arith
name_length IcmpPointer6 = omega arith
name_length RoleSource6 = omega arith
name_length RoleDestination6 = omega arith
name_length SourceMap6 = omega arith
name_length DestinationMap6 = omega arith
name_length HairpinSource6 = omega arith
name_length QuoteShort6 = omega arith
name_length QuoteBad6 = omega arith
name_length NestedTwice6 = omega arith
name_length QuoteType6 = omega arith
name_length QuoteAddress6 = omega arith
name_length TooBig6 = omega arith
