mod Digits
mod PieceFacts
mod RangeTexts
